-- 02, L6: "A conversion writes a small store as a large one (values at the same guest and slot, in use or not, else zero)". Here for any two
-- layouts, l and m: a store of l written as one of m.
use Rattle.std.specs.Prelude.{ℕ, zero, suc, ◌+◌, ◌-◌, ◌*◌, ◌≤◌, cond, List}
use Rattle.octets.specs.Bytes.{bytes_at, put}
use Rattle.store.specs.declared.Layout.{Layout}
use Rattle.store.specs.Layout.{guest_bytes, slot_bytes}
use Rattle.store.specs.Header.{header, live, word, is_used, is_taken}
use Rattle.store.specs.Store.{fresh, put_live, put_word, put_taken}

-- every guest and slot of l is one of m
pub record Within (l m : Layout) : Type 0 where
  pub guests : l.guests ≤ m.guests
  pub slots : l.slots ≤ m.slots

-- a slot word of l as one of m: "used (1), guest id (6), vCPU id (11)" of the same guest and vCPU, or unused
unfoldable pub recoded : Layout → Layout → ℕ → ℕ
recoded l m w = cond (is_used l w) (w - l.ids * 2048 + m.ids * 2048) 0

-- t with what the header h of l says: whether guests 1 to n live, whether slots 0 to n - 1 are taken, and their words
unfoldable pub copied_lives : Layout → List ℕ → ℕ → List ℕ → List ℕ
copied_lives l h zero t = t
copied_lives l h (suc n) t = put_live (copied_lives l h n t) (n + 1) (cond (live l h (n + 1)) 1 0)

unfoldable pub copied_marks : Layout → Layout → List ℕ → ℕ → List ℕ → List ℕ
copied_marks l m h zero t = t
copied_marks l m h (suc n) t = put_taken m (copied_marks l m h n t) n (cond (is_taken l h n) 1 0)

unfoldable pub copied_words : Layout → Layout → List ℕ → ℕ → List ℕ → List ℕ
copied_words l m h zero t = t
copied_words l m h (suc n) t = put_word m (copied_words l m h n t) n (recoded l m (word l h n))

-- "capabilities 8 bytes, live guests 8 (guest 1 first, last bit zero), taken marks 8, slot words 144": all else is zero
unfoldable pub copied_header : Layout → Layout → List ℕ → List ℕ
copied_header l m s =
    copied_words l m (header l s) l.slots
    (copied_marks l m (header l s) l.slots
    (copied_lives l (header l s) l.guests
    (put (fresh m) 0 (bytes_at s 0 8))))

-- "then 52 bytes per guest and 1,820 per slot": all of l's, "at the same guest and slot, in use or not"
unfoldable pub converted : Layout → Layout → List ℕ → List ℕ
converted l m s =
    put
    (put (copied_header l m s) m.guests_at (bytes_at s l.guests_at (guest_bytes * l.guests)))
    m.slots_at (bytes_at s l.slots_at (slot_bytes * l.slots))
