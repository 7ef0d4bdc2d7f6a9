-- The laws of `shown`: nothing else opens it. THEOREM `decimal_right`: the digits of a number make the number. Assumes nothing.
use mathlib.Core.Path.{◌≡◌, refl, ap, ap₂, ◌∙◌}
use mathlib.Core.Bool.{Bool, true, false, cond}
use mathlib.Core.List.{List, [], ◌∷◌, ◌++◌}
use Prim.Native.Nat.{ℕ, zero, suc, ◌+◌, ◌-◌, ◌*◌, ◌/◌, ◌%◌, ◌^◌, ◌≤◌, ◌<◌}
use native.Mathlib.Nat.{pow-suc, div-lt_iff_lt-mul}
use native.Mathlib.Omega.{arith}
use lib.Dec.{ltb}
use lib.ListN.{length, length-append}
use borrow.Author.Tests.{lt-ltb, le-ltb}
use Rattle.text.specs.Text.{digit, shown, decimal}

-- a number of several digits without its last
tenth : (n k : ℕ) → n < 10 ^ suc k → n / 10 < 10 ^ k
tenth n k h =
    let z : 0 < 10 = omega arith in
    (div-lt_iff_lt-mul {k = 10} {x = n} {y = 10 ^ k} z).1 (rw pow-suc at h)

-- ---- how many digits

pub length_shown : (most n : ℕ) → length (shown most n) ≤ most
unfolding shown
length_shown zero n = omega arith
length_shown (suc most) n = go (ltb n 10) (length_shown most (n / 10))
  where
    go : (t : Bool) → length (shown most (n / 10)) ≤ most
        → length (cond t (digit n ∷ []) (shown most (n / 10) ++ (digit (n % 10) ∷ []))) ≤ suc most
    go true h = omega arith
    go false h = simp length-append (omega arith)

-- a number that has few digits is shown the same with room for more
pub shown_most : (most k n : ℕ) → 0 < most → most ≤ k → n < 10 ^ most → shown most n ≡ shown k n
unfolding shown
shown_most zero k n z l h = absurd (omega arith)
shown_most (suc most) zero n z l h = absurd (omega arith)
shown_most (suc zero) (suc k) n z l h = let m : n < 10 = h in simp (lt-ltb n 10 m)
shown_most (suc (suc most)) (suc k) n z l h =
    ap (λ (x : List ℕ). cond (ltb n 10) (digit n ∷ []) (x ++ (digit (n % 10) ∷ [])))
    (shown_most (suc most) k (n / 10) (omega arith) (omega arith) (tenth n (suc most) h))

-- ---- the last digit and those in front, by the tests of the code

module _ (most n : ℕ) where
  pub shown_none : most ≡ 0 → shown most n ≡ []
  unfolding shown
  shown_none e = ap (λ (m : ℕ). shown m n) e

pub shown_one : (most n : ℕ) → (most ≡ 0 → ⊥) → n < 10 → shown most n ≡ digit n ∷ []
unfolding shown
shown_one zero n f h = absurd (f refl)
shown_one (suc most) n f h = simp (lt-ltb n 10 h)

pub shown_more : (most n : ℕ) → (most ≡ 0 → ⊥) → 10 ≤ n → shown most n ≡ shown (most - 1) (n / 10) ++ (digit (n % 10) ∷ [])
unfolding shown
shown_more zero n f h = absurd (f refl)
shown_more (suc most) n f h =
    let e : most ≡ suc most - 1 = omega arith in
    simp (le-ltb n 10 h) (ap (λ (m : ℕ). shown m (n / 10) ++ (digit (n % 10) ∷ [])) e)

-- ---- the digits make the number

-- what decimal digits make of a number that stands in front of them
unfoldable pub reading : ℕ → List ℕ → ℕ
reading n [] = n
reading n (d ∷ ds) = reading (n * 10 + (d - 48)) ds

reading_last : (n : ℕ) (ds : List ℕ) (d : ℕ) → reading n (ds ++ (d ∷ [])) ≡ reading n ds * 10 + (d - 48)
unfolding reading
reading_last n [] d = refl
reading_last n (x ∷ ds) d = reading_last (n * 10 + (x - 48)) ds d

shown_right : (most n : ℕ) → n < 10 ^ most → reading 0 (shown most n) ≡ n
unfolding shown reading
shown_right zero n h = let l : n < 1 = h in omega arith
shown_right (suc most) n h = go (ltb n 10) refl (shown_right most (n / 10) (tenth n most h))
  where
    go : (t : Bool) → ltb n 10 ≡ t → reading 0 (shown most (n / 10)) ≡ n / 10
        → reading 0 (cond t (digit n ∷ []) (shown most (n / 10) ++ (digit (n % 10) ∷ []))) ≡ n
    go true e r = simp e (omega arith)
    go false e r =
        let l : n % 10 < 10 = omega arith in
        let q : n / 10 * 10 + (48 + n % 10 - 48) ≡ n = omega arith in
        reading_last 0 (shown most (n / 10)) (digit (n % 10)) ∙ ap₂ (λ (x y : ℕ). x * 10 + (y - 48)) r (simp (lt-ltb (n % 10) 10 l)) ∙ q

pub decimal_right : (n : ℕ) → n < 10 ^ 20 → reading 0 (decimal n) ≡ n
decimal_right n h = shown_right 20 n h
