-- 02, L6: "after which any list of the eight calls and the clock gives the same answers and buffers on both": what two stores say alike, s of the
-- layout l, and t of m, whose guests and slots are those of l and perhaps more. The theorems are `converted_mirrors`, `converted_else` and
-- `mirror_kept`.
use Rattle.std.specs.Prelude.{ℕ, ◌≤◌, ◌<◌, ◌≡◌, Bool, true, false, cond, List}
use Rattle.octets.specs.Bytes.{bytes_at}
use Rattle.store.specs.declared.Layout.{Layout}
use Rattle.store.specs.Layout.{guest_bytes, slot_bytes, guest_at, slot_at}
use Rattle.store.specs.Header.{header, capabilities_of, live, word, is_taken}
use Rattle.store.specs.Store.{well_formed}
use Rattle.store.specs.Conversion.{recoded}

-- "52 bytes per guest and 1,820 per slot": the values of guest i, or (not wide) of slot i: where they start, how many bytes they are, and which
-- there are
abbrev pub place_of : Layout → Bool → ℕ → ℕ
place_of l wide i = cond wide (guest_at l i) (slot_at l i)

abbrev pub room_of : Bool → ℕ
room_of wide = cond wide guest_bytes slot_bytes

abbrev pub Inside : Layout → Bool → ℕ → Type 0
Inside l true g = (1 ≤ g) × (g ≤ l.guests)
Inside l false j = j < l.slots

abbrev pub values_in : Layout → List ℕ → Bool → ℕ → List ℕ
values_in l s wide i = bytes_at s (place_of l wide i) (room_of wide)

pub record Mirrors (l m : Layout) (s t : List ℕ) : Type 0 where
  pub formed : well_formed l s ≡ true
  pub formed' : well_formed m t ≡ true
  pub capabilities : capabilities_of (header m t) ≡ capabilities_of (header l s)
  -- none above: no guest above l's is live in l
  pub lives : (g : ℕ) → live m (header m t) g ≡ live l (header l s) g
  pub words : (j : ℕ) → j < l.slots → word m (header m t) j ≡ recoded l m (word l (header l s) j)
  -- so that no slot above is taken: t is well formed
  pub unused : (j : ℕ) → l.slots ≤ j → j < m.slots → word m (header m t) j ≡ 0
  pub marks : (j : ℕ) → j < l.slots → is_taken m (header m t) j ≡ is_taken l (header l s) j
  -- "values at the same guest and slot, in use or not"
  pub values : (wide : Bool) (i : ℕ) → Inside l wide i → values_in m t wide i ≡ values_in l s wide i
