-- The records that a mask names are those that the definition changes. Assumes nothing.
use mathlib.Core.Path.{◌≡◌, refl, sym, ap, ap₂, ◌∙◌}
use mathlib.Core.Bool.{Bool, true, false, cond}
use mathlib.Core.List.{List, [], ◌∷◌}
use Prim.Native.Nat.{ℕ, zero, suc, ◌+◌, ◌*◌, ◌/◌, ◌%◌, ◌<◌, ◌≤◌}
use native.Mathlib.Nat.{le_of_suc-le-suc, not-suc-le-zero}
use native.Mathlib.Omega.{arith}
use borrow.Author.Tests.{eq-eqb, ne_eqb}
use lib.Dec.{eqb}
use lib.ListN.{length, get_or, set}
use Rattle.tally.specs.declared.Summary.{Summary}
use Rattle.tally.specs.declared.Change.{Change}
use Rattle.tally.specs.declared.Change.TheVariants.{Nothing}
use Rattle.tally.specs.Tally.{new_record, changed, noted}
use Rattle.tally.specs.Private.{mask_of, after, noted_in, noted_at}

cond_same : {A : Type 0} (b : Bool) (x : A) → cond b x x ≡ x
cond_same true x = refl
cond_same false x = refl

-- ---- a call that changes nothing
pub noted_nothing : (p : ℕ → Bool) (a : ℕ) (ts : List Summary) → noted p Nothing a ts ≡ ts
unfolding noted
noted_nothing p a [] = refl
noted_nothing p a (t ∷ ts) = ap₂ (λ (x : Summary) (xs : List Summary). x ∷ xs) (cond_same (p a) t) (noted_nothing p (a + 1) ts)

in_nothing : (left : ℕ) (ts : List Summary) → noted_in left Nothing ts ≡ ts
unfolding noted_in
in_nothing left [] = refl
in_nothing left (t ∷ ts) = ap₂ (λ (x : Summary) (xs : List Summary). x ∷ xs) (cond_same (eqb (left % 2) 1) t) (in_nothing (left / 2) ts)

pub at_nothing : (first left : ℕ) (ts : List Summary) → noted_at first left Nothing ts ≡ ts
unfolding noted_at
at_nothing zero left ts = in_nothing left ts
at_nothing (suc first) left [] = refl
at_nothing (suc first) left (t ∷ ts) = ap (λ (xs : List Summary). t ∷ xs) (at_nothing first left ts)

module _ (c : Change) where
  -- ---- one slot
  in_zero : (ts : List Summary) → noted_in 0 c ts ≡ ts
  unfolding noted_in
  in_zero [] = refl
  in_zero (t ∷ ts) = ap (λ (xs : List Summary). t ∷ xs) (in_zero ts)

  past : (j a : ℕ) (ts : List Summary) → j < a → noted (λ i. eqb i j) c a ts ≡ ts
  unfolding noted
  past j a [] h = refl
  past j a (t ∷ ts) h =
      let n : a ≡ j → ⊥ = λ e. omega (arith, e, h) in
      ap₂ (λ (x : Summary) (xs : List Summary). x ∷ xs) (ap (λ (b : Bool). cond b (changed c t) t) (ne_eqb a j n)) (past j (a + 1) ts (omega arith))

  one_from : (j k a : ℕ) (ts : List Summary) → a + j ≡ k → noted_at j 1 c ts ≡ noted (λ i. eqb i k) c a ts
  unfolding noted_at noted_in noted
  one_from zero k a [] e = refl
  one_from zero k a (t ∷ ts) e =
      let q : a ≡ k = omega (arith, e) in
      ap₂ (λ (x : Summary) (xs : List Summary). x ∷ xs) (sym (ap (λ (b : Bool). cond b (changed c t) t) (eq-eqb a k q))) (in_zero ts ∙ sym (past k (a + 1) ts (omega (arith, q))))
  one_from (suc j) k a [] e = refl
  one_from (suc j) k a (t ∷ ts) e =
      let n : a ≡ k → ⊥ = λ q. omega (arith, e, q) in
      let f : (a + 1) + j ≡ k = omega (arith, e) in
      ap₂ (λ (x : Summary) (xs : List Summary). x ∷ xs) (sym (ap (λ (b : Bool). cond b (changed c t) t) (ne_eqb a k n))) (one_from j k (a + 1) ts f)

  pub one_noted : (j : ℕ) (ts : List Summary) → noted_at j 1 c ts ≡ noted (λ i. eqb i j) c 0 ts
  one_noted j ts = one_from j j 0 ts (omega arith)

  -- ---- the loop over the records: one turn, and past the last of them
  pub at_turn : (i left : ℕ) (ts : List Summary) → i < length ts → noted_at i left c ts ≡ noted_at (suc i) (left / 2) c (set ts i (after left c (get_or ts i new_record)))
  unfolding noted_at noted_in
  at_turn i left [] h = absurd (not-suc-le-zero h)
  at_turn zero left (t ∷ ts) h = refl
  at_turn (suc i) left (t ∷ ts) h = ap (λ (xs : List Summary). t ∷ xs) (at_turn i left ts (le_of_suc-le-suc h))

  pub at_past : (i left : ℕ) (ts : List Summary) → length ts ≤ i → noted_at i left c ts ≡ ts
  unfolding noted_at noted_in
  at_past zero left [] h = refl
  at_past zero left (t ∷ ts) h = absurd (not-suc-le-zero h)
  at_past (suc i) left [] h = refl
  at_past (suc i) left (t ∷ ts) h = ap (λ (xs : List Summary). t ∷ xs) (at_past i left ts (le_of_suc-le-suc h))

  pub at_none : (i : ℕ) (ts : List Summary) → noted_at i 0 c ts ≡ ts
  unfolding noted_at
  at_none zero ts = in_zero ts
  at_none (suc i) [] = refl
  at_none (suc i) (t ∷ ts) = ap (λ (xs : List Summary). t ∷ xs) (at_none i ts)

  -- ---- a mask
  low_bit : (v : Bool) (m : ℕ) → eqb ((cond v 1 0 + 2 * m) % 2) 1 ≡ v
  low_bit true m = let e : (1 + 2 * m) % 2 ≡ 1 = omega arith in eq-eqb _ _ e
  low_bit false m = let n : (0 + 2 * m) % 2 ≡ 1 → ⊥ = λ e. omega (arith, e) in ne_eqb _ _ n

  others : (v : Bool) (m : ℕ) → (cond v 1 0 + 2 * m) / 2 ≡ m
  others true m = omega arith
  others false m = omega arith

  mask_in : (p : ℕ → Bool) (n a : ℕ) (ts : List Summary) → length ts ≤ n → noted_in (mask_of p n a) c ts ≡ noted p c a ts
  unfolding noted_in noted mask_of
  mask_in p n a [] h = refl
  mask_in p zero a (t ∷ ts) h = absurd (not-suc-le-zero h)
  mask_in p (suc n) a (t ∷ ts) h =
      ap₂ (λ (x : Summary) (xs : List Summary). x ∷ xs) (ap (λ (b : Bool). cond b (changed c t) t) (low_bit (p a) (mask_of p n (a + 1))))
      (ap (λ (m : ℕ). noted_in m c ts) (others (p a) (mask_of p n (a + 1))) ∙ mask_in p n (a + 1) ts (le_of_suc-le-suc h))

  pub mask_noted : (p : ℕ → Bool) (n : ℕ) (ts : List Summary) → length ts ≡ n → noted_at 0 (mask_of p n 0) c ts ≡ noted p c 0 ts
  unfolding noted_at
  mask_noted p n ts e = mask_in p n 0 ts (omega (arith, e))
