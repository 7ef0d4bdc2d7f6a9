-- 01, "The store", and 02, L6: where its parts lie, at both sizes. Definitions and laws take a layout; only this file and the code's
-- `small_layout` and `large_layout` name its numbers.
use Rattle.std.specs.Prelude.{ℕ, ◌+◌, ◌-◌, ◌*◌, cond, List, eqb, length}
use Rattle.store.specs.declared.Layout.{Layout}
pub use Rattle.store.specs.Numbers.{Sound, guest_bytes, slot_bytes}

-- "29,578 bytes .. Bytes 0-7 the agreed capabilities; byte 8 the live guests 1 to 8 ..; byte 9 zero; from byte 10 sixteen slot words
-- of 16 bits: used (1 bit), guest id (4), vCPU id (11). From 42, 52 bytes per guest .. From 458, 1,820 bytes per slot"
-- 02, L1: "The store gains two bytes of taken marks after the slot words (29,580 bytes; values move by two)": 44 and 460.
-- `ids` is how many guest ids a slot word can name.
abbrev pub small : Layout
small = record { guests = 8; zeros = 8; slots = 16; ids = 16; width = 16; words_at = 10; taken_at = 42; guests_at = 44; slots_at = 460; size = 29580 }

-- 02, L6: "The large store's slot word is 18 bits, still most significant first: used (1), guest id (6), vCPU id (11); 64 of them fill 144
-- bytes. The large store is: capabilities 8 bytes, live guests 8 (guest 1 first, last bit zero), taken marks 8, slot words 144, then 52 bytes
-- per guest and 1,820 per slot: 119,924 bytes."
abbrev pub large : Layout
large = record { guests = 63; zeros = 1; slots = 64; ids = 64; width = 18; words_at = 24; taken_at = 16; guests_at = 168; slots_at = 3444; size = 119924 }

-- "Both sizes stay in use and are told apart by length." A store of any other length is no small one either: 1.
unfoldable pub layout_of : List ℕ → Layout
layout_of s = cond (eqb (length s) large.size) large small

-- where the values of guest g, counted from 1, and of slot j, counted from 0, start
abbrev pub guest_at : Layout → ℕ → ℕ
guest_at l g = l.guests_at + guest_bytes * (g - 1)

abbrev pub slot_at : Layout → ℕ → ℕ
slot_at l j = l.slots_at + slot_bytes * j
