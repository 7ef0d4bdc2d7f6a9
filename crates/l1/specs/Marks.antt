-- 01, "The L1 cache": the cache, its marks, and when it is well formed.
use Rattle.std.specs.Prelude.{ℕ, ◌+◌, ◌-◌, ◌/◌, ◌%◌, ◌^◌, Bool, not, ◌&&◌, ◌||◌, cond, List, eqb, ltb, length, get_or, set}
use Rattle.std.specs.Int.Bits.{bit_or}
use Rattle.elements.specs.declared.Offer.{Offer}
use Rattle.rules.specs.declared.Usage.{Usage}
use Rattle.rules.specs.declared.Usage.TheVariants.{ThreadGet, RunInput}
use Rattle.elements.specs.Table.{kind_of, thread_element}
use Rattle.rules.specs.Rules.{between, permits}
use Rattle.store.specs.Layout.{slot_bytes}
use Rattle.store.specs.Search.{every}

-- "1,820 value bytes", laid out as a slot's, "and six lent 64-bit words: three of valid marks, three of changed marks"
pub record Cache : Type 0 where
  pub values : List ℕ
  pub marks : List ℕ

-- "Thread element e (0 to 169 in order of ID) is bit e mod 64, from the most significant, of word e div 64": mark i of all six words
unfoldable pub is_marked : List ℕ → ℕ → Bool
is_marked m i = eqb (get_or m (i / 64) 0 / 2 ^ (63 - i % 64) % 2) 1

unfoldable pub with_mark : List ℕ → ℕ → List ℕ
with_mark m i = set m (i / 64) (bit_or (get_or m (i / 64) 0) (2 ^ (63 - i % 64)))

abbrev pub valid : Cache → ℕ → Bool
valid c e = is_marked c.marks e

abbrev pub changed : Cache → ℕ → Bool
changed c e = is_marked c.marks (192 + e)

-- what a use permits depends on no capability. 02, L7: "Each cache call is told the PVR and goes by that list"
abbrev pub allowed : Offer → Usage → ℕ → Bool
allowed o usage id = permits (record { usage = usage; capabilities = 0; offer = o }) id (kind_of id)

-- "6 unless permitted in a run input (NOP too is 6)"
unfoldable pub is_input : Offer → ℕ → Bool
is_input o id = not (eqb id 0x0000) && allowed o RunInput id

-- "6 unless readable in a thread get and not 0x0C00, 0x0C01 or the NOP"
abbrev pub is_special : ℕ → Bool
is_special id = eqb id 0x0000 || between 0x0C00 0x0C01 id

unfoldable pub is_readable : Offer → ℕ → Bool
is_readable o id = not (is_special id) && allowed o ThreadGet id

-- "Well formed: right lengths, no mark past 169, every changed element valid and permitted in a run input. Empty: all marks 0." 02, L7: "goes by
-- that list, in 15 too"
unfoldable pub mark_good : Offer → Cache → ℕ → Bool
mark_good o c e = cond (ltb e 170) (not (changed c e) || (valid c e && is_input o (thread_element e).id)) (not (valid c e) && not (changed c e))

unfoldable pub good_cache : Offer → Cache → Bool
good_cache o c = eqb (length c.values) slot_bytes && (eqb (length c.marks) 6 && every (mark_good o c) 192 0)
