-- The cache by itself: its cells after a value is kept or changed, when it is well formed, and what is pending. Assumes nothing.
use mathlib.Core.Path.{◌≡◌, refl, sym, ap, ap₂, ◌∙◌}
use mathlib.Core.Logic.{◌≢◌}
use mathlib.Core.Bool.{Bool, true, false, not, ◌&&◌, ◌||◌, cond}
use mathlib.Core.List.{List, [], ◌∷◌, ◌++◌}
use Prim.Native.Nat.{ℕ, zero, suc, ◌+◌, ◌/◌, ◌≤◌, ◌<◌}
use native.Mathlib.Decide.{dec_lt}
use native.Mathlib.Omega.{arith}
use lib.Dec.{ltb}
use lib.ListN.{length}
use borrow.Author.Tests.{eq-eqb, lt-ltb, le-ltb}
use Rattle.octets.specs.Bytes.{bytes_at, put}
use Rattle.octets.proofs.Bytes.{length_put}
use Rattle.elements.specs.Table.{number_of, thread_element}
use Rattle.store.specs.Search.{every}
use Rattle.store.proofs.Search.{every_all}
use Rattle.exits.specs.Exits.{element_of, valued}
use Rattle.elements.specs.declared.Offer.{Offer}
use Rattle.l1.specs.Marks.{Cache, with_mark, valid, changed, is_input, mark_good, good_cache}
use Rattle.l1.specs.Cache.{change, keep, chosen, pending}
use Rattle.agreement.specs.Agree.{newest, in_order}
use Rattle.agreement.proofs.MarkLaws.{mark_same, mark_other, length_mark, word_below}
use Rattle.l1.proofs.Cells.{Named, named_number, value_of, value_same, value_other}

-- the value of an element, as it lies in the cache
abbrev pub cell : Cache → ℕ → List ℕ
cell c id = value_of 0 c.values id

-- what is due of element e
abbrev pub due_at : Cache → ℕ → List (ℕ × List ℕ)
due_at c e = cond (changed c e) (((thread_element e).id, cell c (thread_element e).id) ∷ []) []

from_zero : (n : ℕ) → 0 + n ≡ n
from_zero n = omega arith

pub cell_is : (c : Cache) (id : ℕ) → bytes_at c.values (element_of id).position (element_of id).size ≡ cell c id
cell_is c id = ap (λ (n : ℕ). bytes_at c.values n (element_of id).size) (sym (from_zero (element_of id).position))

-- ---- a value put into the cache: as valid, or as valid and changed
module _ (c : Cache) (lv : length c.values ≡ 1820) (lm : length c.marks ≡ 6) (id : ℕ) (w : List ℕ) (t : Named id) (z : length w ≡ (element_of id).size) where
  abbrev e : ℕ
  e = number_of id

  room : 0 + 1820 ≤ length c.values
  room = omega (arith, lv)

  put_at : put c.values (element_of id).position w ≡ put c.values (0 + (element_of id).position) w
  put_at = ap (λ (n : ℕ). put c.values n w) (sym (from_zero (element_of id).position))

  values_same : value_of 0 (put c.values (element_of id).position w) id ≡ w
  values_same = ap (λ (x : List ℕ). value_of 0 x id) put_at ∙ value_same 0 c.values room id w t z

  values_other : (f : ℕ) → Named f → id ≢ f → value_of 0 (put c.values (element_of id).position w) f ≡ value_of 0 c.values f
  values_other f u n = ap (λ (x : List ℕ). value_of 0 x f) put_at ∙ value_other 0 c.values id f w t u n z

  pub keep_values : length (keep c id w).values ≡ 1820
  unfolding keep
  keep_values = length_put c.values (element_of id).position w ∙ lv

  pub keep_marks : length (keep c id w).marks ≡ 6
  unfolding keep
  keep_marks = length_mark c.marks e ∙ lm

  pub keep_same : cell (keep c id w) id ≡ w
  unfolding keep
  keep_same = values_same

  pub keep_other : (f : ℕ) → Named f → id ≢ f → cell (keep c id w) f ≡ cell c f
  unfolding keep
  keep_other = values_other

  word : (i : ℕ) → i < 384 → i / 64 < length c.marks
  word i h = word_below c.marks i lm h

  first_word : e / 64 < length c.marks
  first_word = word e (omega (arith, named_number id t))

  pub keep_valid : valid (keep c id w) e ≡ true
  unfolding keep
  keep_valid = mark_same c.marks e first_word

  pub keep_valid_other : (f : ℕ) → f ≢ e → valid (keep c id w) f ≡ valid c f
  unfolding keep
  keep_valid_other f n = mark_other c.marks e f first_word n

  pub keep_changed : (f : ℕ) → changed (keep c id w) f ≡ changed c f
  unfolding keep
  keep_changed f = mark_other c.marks e (192 + f) first_word (λ q. omega (arith, named_number id t))

  -- changed: the same, and the second mark
  second_word : (192 + e) / 64 < length (with_mark c.marks e)
  second_word = word_below (with_mark c.marks e) (192 + e) (length_mark c.marks e ∙ lm) (omega (arith, named_number id t))

  pub change_values : length (change c id w).values ≡ 1820
  unfolding change
  change_values = length_put c.values (element_of id).position w ∙ lv

  pub change_marks : length (change c id w).marks ≡ 6
  unfolding change
  change_marks = length_mark (with_mark c.marks e) (192 + e) ∙ length_mark c.marks e ∙ lm

  pub change_same : cell (change c id w) id ≡ w
  unfolding change
  change_same = values_same

  pub change_other : (f : ℕ) → Named f → id ≢ f → cell (change c id w) f ≡ cell c f
  unfolding change
  change_other = values_other

  pub change_valid : valid (change c id w) e ≡ true
  unfolding change
  change_valid = mark_other (with_mark c.marks e) (192 + e) e second_word (λ q. omega (arith)) ∙ mark_same c.marks e first_word

  pub change_valid_other : (f : ℕ) → f < 192 → f ≢ e → valid (change c id w) f ≡ valid c f
  unfolding change
  change_valid_other f k n = mark_other (with_mark c.marks e) (192 + e) f second_word (λ q. omega arith) ∙ mark_other c.marks e f first_word n

  pub change_changed : changed (change c id w) e ≡ true
  unfolding change
  change_changed = mark_same (with_mark c.marks e) (192 + e) second_word

  pub change_changed_other : (f : ℕ) → f ≢ e → changed (change c id w) f ≡ changed c f
  unfolding change
  change_changed_other f n =
      mark_other (with_mark c.marks e) (192 + e) (192 + f) second_word (λ q. n (omega arith))
      ∙ mark_other c.marks e (192 + f) first_word (λ q. omega (arith, named_number id t))

-- ---- well formed
pub well_formed_lem : (o : Offer) (c : Cache) → length c.values ≡ 1820 → length c.marks ≡ 6
    → ((e : ℕ) → e < 170 → changed c e ≡ true → (valid c e ≡ true) × (is_input o (thread_element e).id ≡ true))
    → ((e : ℕ) → 170 ≤ e → e < 192 → (valid c e ≡ false) × (changed c e ≡ false)) → good_cache o c ≡ true
unfolding good_cache mark_good
well_formed_lem o c lv lm low high =
    ap₂ (λ (a b : Bool). a && (b && every (mark_good o c) 192 0)) (eq-eqb _ _ lv) (eq-eqb _ _ lm)
    ∙ every_all (mark_good o c) 192 0 (λ e h k. by e k (dec_lt e 170))
  where
    below : (e : ℕ) → e < 170 → (x : Bool) → changed c e ≡ x → (not x || (valid c e && is_input o (thread_element e).id)) ≡ true
    below e k true q = let p = low e k q in ap₂ (λ (a b : Bool). a && b) p.0 p.1
    below e k false q = refl

    by : (e : ℕ) → e < 0 + 192 → Dec (e < 170) → mark_good o c e ≡ true
    by e k (yes h) =
        ap (λ (t : Bool). cond t (not (changed c e) || (valid c e && is_input o (thread_element e).id)) (not (valid c e) && not (changed c e))) (lt-ltb e 170 h)
        ∙ below e h (changed c e) refl
    by e k (no h) =
        let p = high e (omega arith) (omega arith) in
        let q : ltb e 170 ≡ false = le-ltb e 170 (omega arith) in
        ap (λ (t : Bool). cond t (not (changed c e) || (valid c e && is_input o (thread_element e).id)) (not (valid c e) && not (changed c e))) q
        ∙ ap₂ (λ (a b : Bool). not a && not b) p.0 p.1

-- ---- what is pending, in order of ID
valued_append : (base : ℕ) (s xs ys : List ℕ) → valued base s (xs ++ ys) ≡ valued base s xs ++ valued base s ys
unfolding valued
valued_append base s [] ys = refl
valued_append base s (x ∷ xs) ys = ap (λ (z : List (ℕ × List ℕ)). (x, bytes_at s (base + (element_of x).position) (element_of x).size) ∷ z) (valued_append base s xs ys)

pending_upto : (c : Cache) (ws : List (ℕ × List ℕ)) → ((e : ℕ) → e < 170 → due_at c e ≡ newest ws (thread_element e).id) → (n : ℕ) → n ≤ 170 → valued 0 c.values (chosen (changed c) n) ≡ in_order ws n
unfolding chosen in_order valued
pending_upto c ws h zero k = refl
pending_upto c ws h (suc n) k =
    valued_append 0 c.values (chosen (changed c) n) (cond (changed c n) ((thread_element n).id ∷ []) [])
    ∙ ap₂ (λ (xs ys : List (ℕ × List ℕ)). xs ++ ys) (pending_upto c ws h n (omega arith)) (one (changed c n) ∙ h n (omega arith))
  where
    one : (t : Bool) → valued 0 c.values (cond t ((thread_element n).id ∷ []) []) ≡ cond t (((thread_element n).id, cell c (thread_element n).id) ∷ []) []
    one true = refl
    one false = refl

pub pending_due : (c : Cache) (ws : List (ℕ × List ℕ)) → ((e : ℕ) → e < 170 → due_at c e ≡ newest ws (thread_element e).id) → pending c ≡ in_order ws 170
pending_due c ws h = pending_upto c ws h 170 (omega arith)
