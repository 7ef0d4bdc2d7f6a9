-- The elements of a buffer, counted from the front as the code does, are those of the definition where every header fits. Assumes nothing.
use mathlib.Core.Path.{◌≡◌, refl, sym, ap, ◌∙◌}
use mathlib.Core.Bool.{Bool, cond}
use mathlib.Core.List.{List}
use Prim.Native.Nat.{ℕ, zero, suc, ◌+◌, ◌-◌, ◌<◌, ◌≤◌}
use native.Mathlib.Omega.{arith}
use borrow.Author.Tests.{lt-ltb, le-ltb, eq-eqb, ne_eqb}
use lib.Dec.{ltb}
use lib.ListN.{length}
use Rattle.gsb.specs.Walk.{count_of, id_at, next_at, offset_at}
use Rattle.tally.specs.Tally.{elements_set}
use Rattle.tally.specs.Private.{weight_at, set_from, set_in}

pub nop_weight : (b : List ℕ) (at v : ℕ) → v ≡ id_at b at → v ≡ 0 → 0 ≡ weight_at b at
nop_weight b at v e z = sym (ap (λ (x : Bool). cond x 0 1) (eq-eqb _ _ (sym e ∙ z)))

pub set_weight : (b : List ℕ) (at v : ℕ) → v ≡ id_at b at → (v ≡ 0 → ⊥) → 1 ≡ weight_at b at
set_weight b at v e n = sym (ap (λ (x : Bool). cond x 0 1) (ne_eqb _ _ (λ q. n (e ∙ q))))

module _ (b : List ℕ) where
  from_none : (at : ℕ) → set_from b 0 at ≡ 0
  unfolding set_from
  from_none at = refl

  from_suc : (n at : ℕ) → set_from b (suc n) at ≡ cond (ltb (length b) (at + 4)) 0 (weight_at b at + set_from b n (next_at b at))
  unfolding set_from
  from_suc n at = refl

  from_cut : (n at : ℕ) → length b < at + 4 → set_from b (suc n) at ≡ 0
  from_cut n at h = from_suc n at ∙ ap (λ (x : Bool). cond x 0 (weight_at b at + set_from b n (next_at b at))) (lt-ltb _ _ h)

  from_more : (n at : ℕ) → at + 4 ≤ length b → set_from b (suc n) at ≡ weight_at b at + set_from b n (next_at b at)
  from_more n at h = from_suc n at ∙ ap (λ (x : Bool). cond x 0 (weight_at b at + set_from b n (next_at b at))) (le-ltb _ _ h)

  in_whole : 4 ≤ length b → set_from b (count_of b) 4 ≡ set_in b
  in_whole h = sym (ap (λ (x : Bool). cond x 0 (set_from b (count_of b) 4)) (le-ltb _ _ h))

  pub in_short : length b < 4 → 0 ≡ set_in b
  in_short h = sym (ap (λ (x : Bool). cond x 0 (set_from b (count_of b) 4)) (lt-ltb _ _ h))

  module _ (count at i total : ℕ) where
    -- the loop: `total` so far, and what is left
    abbrev pub Left : Type 0
    Left = total + set_from b (count - i) at ≡ set_from b count 4

    left_suc : i < count → count - i ≡ suc (count - (i + 1))
    left_suc h = omega arith

    ends : set_from b (count - i) at ≡ 0 → Left → count ≡ count_of b → 4 ≤ length b → total ≡ set_in b
    ends z q e w =
        let t : total ≡ total + set_from b (count - i) at = omega (arith, z) in
        t ∙ q ∙ ap (λ (n : ℕ). set_from b n 4) e ∙ in_whole w

    pub count_cut : Left → i < count → length b < at + 4 → count ≡ count_of b → 4 ≤ length b → total ≡ set_in b
    count_cut q h k e w = ends (ap (λ (n : ℕ). set_from b n at) (left_suc h) ∙ from_cut _ at k) q e w

    pub count_done : Left → count ≤ i → count ≡ count_of b → 4 ≤ length b → total ≡ set_in b
    count_done q h e w = let z : count - i ≡ 0 = omega arith in ends (ap (λ (n : ℕ). set_from b n at) z ∙ from_none at) q e w

    pub count_more : (w next : ℕ) → Left → i < count → at + 4 ≤ length b → w ≡ weight_at b at → next ≡ next_at b at
        → (total + w) + set_from b (count - (i + 1)) next ≡ set_from b count 4
    count_more w next q h k e f =
        let x : set_from b (count - i) at ≡ weight_at b at + set_from b (count - (i + 1)) (next_at b at) = ap (λ (n : ℕ). set_from b n at) (left_suc h) ∙ from_more _ at k in
        let y : set_from b (count - (i + 1)) next ≡ set_from b (count - (i + 1)) (next_at b at) = ap (set_from b (count - (i + 1))) f in
        omega (arith, q, e, x, y)

  pub count_start : (count : ℕ) → 0 + set_from b (count - 0) 4 ≡ set_from b count 4
  count_start count =
      let z : count - 0 ≡ count = omega arith in
      let t : 0 + set_from b (count - 0) 4 ≡ set_from b (count - 0) 4 = omega arith in
      t ∙ ap (λ (n : ℕ). set_from b n 4) z

  -- ---- where every header fits
  offset_suc : (i : ℕ) → offset_at b (suc i) ≡ next_at b (offset_at b i)
  unfolding offset_at
  offset_suc i = refl

  offset_zero : offset_at b 0 ≡ 4
  unfolding offset_at
  offset_zero = refl

  set_suc : (n : ℕ) → elements_set b (suc n) ≡ elements_set b n + weight_at b (offset_at b n)
  unfolding elements_set
  set_suc n = refl

  set_zero : elements_set b 0 ≡ 0
  unfolding elements_set
  set_zero = refl

  abbrev pub Headers : ℕ → Type 0
  Headers count = (i : ℕ) → i < count → offset_at b i + 4 ≤ length b

  -- those before i, and those from i on
  split_at : (count n i : ℕ) → i + n ≡ count → Headers count → elements_set b i + set_from b n (offset_at b i) ≡ elements_set b count
  split_at count zero i e h =
      let z : set_from b 0 (offset_at b i) ≡ 0 = from_none (offset_at b i) in
      let k : i ≡ count = omega (arith, e) in
      let t : elements_set b i + set_from b 0 (offset_at b i) ≡ elements_set b i = omega (arith, z) in
      t ∙ ap (elements_set b) k
  split_at count (suc n) i e h =
      let m : set_from b (suc n) (offset_at b i) ≡ weight_at b (offset_at b i) + set_from b n (next_at b (offset_at b i)) = from_more n (offset_at b i) (h i (omega (arith, e))) in
      let f : set_from b n (offset_at b (suc i)) ≡ set_from b n (next_at b (offset_at b i)) = ap (set_from b n) (offset_suc i) in
      let g : elements_set b (suc i) ≡ elements_set b i + weight_at b (offset_at b i) = set_suc i in
      let t : elements_set b i + set_from b (suc n) (offset_at b i) ≡ elements_set b (suc i) + set_from b n (offset_at b (suc i)) = omega (arith, m, f, g) in
      t ∙ split_at count n (suc i) (omega (arith, e)) h

  pub all_set_lem : 4 ≤ length b → Headers (count_of b) → set_in b ≡ elements_set b (count_of b)
  all_set_lem w h =
      let z : elements_set b 0 ≡ 0 = set_zero in
      let f : set_from b (count_of b) 4 ≡ set_from b (count_of b) (offset_at b 0) = ap (set_from b (count_of b)) (sym offset_zero) in
      let t : set_from b (count_of b) 4 ≡ elements_set b 0 + set_from b (count_of b) (offset_at b 0) = omega (arith, z, f) in
      sym (in_whole w) ∙ t ∙ split_at (count_of b) (count_of b) 0 (omega arith) h
