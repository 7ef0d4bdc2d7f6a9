-- 01, "The store": what stands before the values. Every test of a store but its length is one of its header, so that a write into
-- values changes none of them.
use Rattle.std.specs.Prelude.{ℕ, ◌+◌, ◌-◌, ◌*◌, ◌/◌, ◌^◌, Bool, not, ◌&&◌, cond, List, leb, ltb, eqb}
use Rattle.std.specs.Int.Bits.{bit_and}
use Rattle.octets.specs.Bytes.{bytes_at, be}
use Rattle.octets.specs.Bits.{bit, bits}
use Rattle.store.specs.declared.Layout.{Layout}
use Rattle.store.specs.Search.{every, first, tally}

unfoldable pub header : Layout → List ℕ → List ℕ
header l s = bytes_at s 0 l.guests_at

-- the bits of a 64-bit number that are not among the supported ones
abbrev pub outside : ℕ → ℕ → ℕ
outside supported x = bit_and x (2 ^ 64 - 1 - supported)

-- "Offered capabilities are bits 1 and 2"
abbrev pub offered : ℕ
offered = 0x6000000000000000

-- "Bytes 0-7 the agreed capabilities"
unfoldable pub capabilities_of : List ℕ → ℕ
capabilities_of h = be h 0 8

-- "byte 8 the live guests 1 to 8, guest 1 first"
unfoldable pub live : Layout → List ℕ → ℕ → Bool
live l h g = (leb 1 g && leb g l.guests) && eqb (bit h (63 + g)) 1

-- "sixteen slot words of 16 bits: used (1 bit), guest id (4), vCPU id (11)": word i, and the word of a guest's vCPU. The law
-- `word_fields` shows the three fields.
abbrev pub word_at : Layout → ℕ → ℕ
word_at l i = 8 * l.words_at + l.width * i

unfoldable pub word : Layout → List ℕ → ℕ → ℕ
word l h i = bits h (word_at l i) l.width

unfoldable pub word_of : Layout → ℕ → ℕ → ℕ
word_of l g v = (l.ids + g) * 2048 + v

unfoldable pub is_used : Layout → ℕ → Bool
is_used l w = leb (l.ids * 2048) w

unfoldable pub guest_of : Layout → ℕ → ℕ
guest_of l w = w / 2048 - l.ids

-- 02, L1: "The store gains two bytes of taken marks after the slot words": the mark of slot a is bit a of them, the most significant first
unfoldable pub is_taken : Layout → List ℕ → ℕ → Bool
is_taken l h a = eqb (bit h (8 * l.taken_at + a)) 1

-- slot a holds the word w, or lacks it
unfoldable pub holds : Layout → List ℕ → ℕ → ℕ → Bool
holds l h w a = eqb (word l h a) w

unfoldable pub lacks : Layout → List ℕ → ℕ → ℕ → Bool
lacks l h w a = not (eqb (word l h a) w)

-- no slot before a holds the word w
unfoldable pub alone : Layout → List ℕ → ℕ → ℕ → Bool
alone l h w a = every (lacks l h w) a 0

-- "each used word names a live guest, no two the same pair, unused words zero". 02, L1: "a mark on an unused slot is ill formed"
unfoldable pub slot_good : Layout → List ℕ → ℕ → Bool
slot_good l h a =
    cond (eqb (word l h a) 0) (not (is_taken l h a))
    (is_used l (word l h a) && (live l h (guest_of l (word l h a)) && alone l h (word l h a) a))

-- "byte 9 zero, no capability but bits 1 and 2"
unfoldable pub head_good : Layout → List ℕ → Bool
head_good l h = eqb (outside offered (capabilities_of h)) 0 && eqb (bits h (64 + l.guests) l.zeros) 0

unfoldable pub words_good : Layout → List ℕ → Bool
words_good l h = every (slot_good l h) l.slots 0

-- the slot that holds a word, or the number of slots where none does
unfoldable pub slot_holding : Layout → List ℕ → ℕ → ℕ
slot_holding l h w = first (holds l h w) l.slots 0

-- 01, "Answers", 4: "vCPU id above 2047, or (not when creating) absent"; then this is the number of slots
unfoldable pub slot_of : Layout → List ℕ → ℕ → ℕ → ℕ
slot_of l h g v = cond (live l h g && ltb v 2048) (slot_holding l h (word_of l g v)) l.slots

-- "Create takes the lowest free id or slot": unused words are zero. With none free: past the last.
unfoldable pub free_slot : Layout → List ℕ → ℕ
free_slot l h = slot_holding l h 0

unfoldable pub is_dead : Layout → List ℕ → ℕ → Bool
is_dead l h g = not (live l h g)

unfoldable pub free_guest : Layout → List ℕ → ℕ
free_guest l h = first (is_dead l h) l.guests 1

-- a guest lives
unfoldable pub any_live : Layout → List ℕ → Bool
any_live l h = not (every (is_dead l h) l.guests 1)

-- how many slots are used: "unused words zero"
unfoldable pub used_slots : Layout → List ℕ → ℕ
used_slots l h = tally (lacks l h 0) l.slots
