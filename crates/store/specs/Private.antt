-- Names that only the contracts of private functions use.
use Rattle.std.specs.Prelude.{ℕ, Bool, not, ◌&&◌, cond, List, eqb, length}
use Rattle.store.specs.declared.Layout.{Layout}
use Rattle.store.specs.Search.{tally}
use Rattle.store.specs.Header.{header, live, word, is_used, guest_of, is_taken, holds, head_good}

-- how many slots hold the word w
abbrev pub times_of : Layout → List ℕ → ℕ → ℕ
times_of l h w = tally (holds l h w) l.slots

-- `slot_good`, of all slots at once: a used word names a live guest and stands once, an unused slot has no mark
unfoldable pub slot_counted : Layout → List ℕ → ℕ → Bool
slot_counted l h a =
    cond (eqb (word l h a) 0) (not (is_taken l h a))
    (is_used l (word l h a) && (live l h (guest_of l (word l h a)) && eqb (times_of l h (word l h a)) 1))

-- the tests of a store that come before those of its slot words
unfoldable pub head_formed : Layout → List ℕ → Bool
head_formed l s = eqb (length s) l.size && head_good l (header l s)
