-- Marks of a word at once: a word is the mask of its marks, and `&`, `|` and `!` of masks are masks of the tests. Assumes nothing.
use mathlib.Core.Path.{◌≡◌, refl, sym, ap, ap₂, ◌∙◌, subst}
use mathlib.Core.Bool.{Bool, true, false, not, ◌&&◌, ◌||◌, cond}
use mathlib.Core.Logic.{◌⊎◌, inl, inr}
use mathlib.Core.List.{List}
use Prim.Native.Nat.{ℕ, zero, suc, ◌+◌, ◌-◌, ◌*◌, ◌/◌, ◌%◌, ◌^◌, ◌<◌}
use native.Mathlib.Nat.{mod-lt, eq-zero-or-pos, pow-suc, div-one}
use native.Mathlib.Numerals.{add-one}
use native.Mathlib.Omega.{arith}
use lib.Dec.{eqb, lit<}
use lib.Pow.{shr_lt, shr-shr}
use lib.Bits.{bit_and, bit_or, and_block, or_block}
use lib.Count.{ones, ones_step}
use lib.ListN.{get_or}
use borrow.Author.Tests.{ne_eqb}
use Rattle.store.specs.Search.{every, tally}
use Rattle.l1.specs.Marks.{is_marked}
use Rattle.l1.specs.Private.{is_changed}

-- the n marks from mark i on as a number, those set that have p: mark i is the most significant bit
unfoldable pub mask : (ℕ → Bool) → ℕ → ℕ → ℕ
mask p zero i = 0
mask p (suc n) i = mask p n i * 2 + cond (p (i + n)) 1 0

-- ---- one bit
bit_lt : (b : Bool) → cond b 1 0 < 2
bit_lt true = lit< tt
bit_lt false = lit< tt

bit_and_lem : (a b : Bool) → bit_and (cond a 1 0) (cond b 1 0) ≡ cond (a && b) 1 0
bit_and_lem true true = refl
bit_and_lem true false = refl
bit_and_lem false true = refl
bit_and_lem false false = refl

bit_or_lem : (a b : Bool) → bit_or (cond a 1 0) (cond b 1 0) ≡ cond (a || b) 1 0
bit_or_lem true true = refl
bit_or_lem true false = refl
bit_or_lem false true = refl
bit_or_lem false false = refl

-- ---- n bits
mask_lt : (p : ℕ → Bool) (n i : ℕ) → mask p n i < 2 ^ n
unfolding mask
mask_lt p zero i = lit< tt
mask_lt p (suc n) i = omega (arith, mask_lt p n i, bit_lt (p (i + n)), pow-suc 2 n)

pub mask_and : (p q : ℕ → Bool) (n i : ℕ) → bit_and (mask p n i) (mask q n i) ≡ mask (λ e. p e && q e) n i
unfolding mask
mask_and p q zero i = refl
mask_and p q (suc n) i =
    and_block 1 (mask p n i) (mask q n i) (cond (p (i + n)) 1 0) (cond (q (i + n)) 1 0) (bit_lt (p (i + n))) (bit_lt (q (i + n)))
    ∙ ap₂ (λ (x y : ℕ). x * 2 + y) (mask_and p q n i) (bit_and_lem (p (i + n)) (q (i + n)))

pub mask_or : (p q : ℕ → Bool) (n i : ℕ) → bit_or (mask p n i) (mask q n i) ≡ mask (λ e. p e || q e) n i
unfolding mask
mask_or p q zero i = refl
mask_or p q (suc n) i =
    or_block 1 (mask p n i) (mask q n i) (cond (p (i + n)) 1 0) (cond (q (i + n)) 1 0) (bit_lt (p (i + n))) (bit_lt (q (i + n)))
    ∙ ap₂ (λ (x y : ℕ). x * 2 + y) (mask_or p q n i) (bit_or_lem (p (i + n)) (q (i + n)))

pub mask_not : (p : ℕ → Bool) (n i : ℕ) → 2 ^ n - 1 - mask p n i ≡ mask (λ e. not (p e)) n i
unfolding mask
mask_not p zero i = refl
mask_not p (suc n) i = by (p (i + n)) (mask_not p n i) (mask_lt p n i)
  where
    by : (b : Bool) → 2 ^ n - 1 - mask p n i ≡ mask (λ e. not (p e)) n i → mask p n i < 2 ^ n
        → 2 ^ suc n - 1 - (mask p n i * 2 + cond b 1 0) ≡ mask (λ e. not (p e)) n i * 2 + cond (not b) 1 0
    by true e h = omega (arith, pow-suc 2 n)
    by false e h = omega (arith, pow-suc 2 n)

-- ---- a mask is 0 where no mark has p
pub every_append : (p : ℕ → Bool) (a b i : ℕ) → every p (a + b) i ≡ (every p a i && every p b (i + a))
unfolding every
every_append p zero b i =
    let x : 0 + b ≡ b = omega arith in
    let y : i ≡ i + 0 = omega arith in
    ap₂ (every p) x y
every_append p (suc a) b i =
    let x : suc a + b ≡ suc (a + b) = omega arith in
    let y : i + 1 + a ≡ i + suc a = omega arith in
    ap (λ (n : ℕ). every p n i) x ∙ ap (λ (t : Bool). p i && t) (every_append p a b (i + 1))
    ∙ regroup (p i) (every p a (i + 1)) (every p b (i + 1 + a)) ∙ ap (λ (j : ℕ). (p i && every p a (i + 1)) && every p b j) y
  where
    regroup : (x y z : Bool) → (x && (y && z)) ≡ ((x && y) && z)
    regroup true y z = refl
    regroup false y z = refl

pub mask_none : (p : ℕ → Bool) (n i : ℕ) → eqb (mask p n i) 0 ≡ every (λ e. not (p e)) n i
unfolding mask every
mask_none p zero i = refl
mask_none p (suc n) i =
    last (mask p n i) (p (i + n)) (eq-zero-or-pos (mask p n i))
    ∙ ap (λ (t : Bool). t && (not (p (i + n)) && true)) (mask_none p n i)
    ∙ sym (ap (λ (k : ℕ). every (λ e. not (p e)) k i) (sym (add-one n)) ∙ every_append (λ e. not (p e)) n 1 i)
  where
    last : (m : ℕ) (b : Bool) → (m ≡ 0) ⊎ (0 < m) → eqb (m * 2 + cond b 1 0) 0 ≡ (eqb m 0 && (not b && true))
    last m true (inl z) = simp z
    last m false (inl z) = simp z
    last m b (inr h) =
        let n : m * 2 + cond b 1 0 ≡ 0 → ⊥ = λ z. omega arith in
        let k : m ≡ 0 → ⊥ = λ z. omega arith in
        simp (ne_eqb _ _ n, ne_eqb _ _ k)

pub ones_mask : (p : ℕ → Bool) (n i : ℕ) → ones (mask p n i) ≡ tally (λ e. p (i + e)) n
unfolding mask tally ones
ones_mask p zero i = refl
ones_mask p (suc n) i =
    let h = bit_lt (p (i + n)) in
    let a : (mask p n i * 2 + cond (p (i + n)) 1 0) / 2 ≡ mask p n i = omega arith in
    let b : (mask p n i * 2 + cond (p (i + n)) 1 0) % 2 ≡ cond (p (i + n)) 1 0 = omega arith in
    ones_step (mask p n i * 2 + cond (p (i + n)) 1 0) ∙ ap₂ (λ (x y : ℕ). x + ones y) b a ∙ omega (arith, ones_mask p n i)

-- ---- a word is the mask of its marks
word_mask : (p : ℕ → Bool) (n w i : ℕ) → w < 2 ^ n → ((j : ℕ) → j < n → p (i + j) ≡ eqb (w / 2 ^ (n - 1 - j) % 2) 1) → mask p n i ≡ w
unfolding mask
word_mask p zero w i h d = omega arith
word_mask p (suc n) w i h d =
    ap₂ (λ (x y : ℕ). x * 2 + y) (word_mask p n (w / 2) i (half (shr_lt n 1)) (λ j l. d j (omega arith) ∙ ap (λ (x : ℕ). eqb (x % 2) 1) (halved j l))) lowest
    ∙ omega arith
  where
    halved : (j : ℕ) → j < n → w / 2 ^ (suc n - 1 - j) ≡ w / 2 / 2 ^ (n - 1 - j)
    halved j l = let q : suc n - 1 - j ≡ 1 + (n - 1 - j) = omega arith in ap (λ (x : ℕ). w / 2 ^ x) q ∙ sym (shr-shr w 1 (n - 1 - j))

    half : (w < 2 ^ (n + 1) → w / 2 ^ 1 < 2 ^ n) → w / 2 < 2 ^ n
    half f = f (subst (λ (x : ℕ). w < 2 ^ x) (sym (add-one n)) h)

    set : (b : ℕ) → b < 2 → cond (eqb b 1) 1 0 ≡ b
    set zero l = refl
    set (suc zero) l = refl
    set (suc (suc b)) l = absurd (omega arith)

    lowest : cond (p (i + n)) 1 0 ≡ w % 2
    lowest =
        let q : suc n - 1 - n ≡ 0 = omega arith in
        ap (λ (b : Bool). cond b 1 0) (d n (omega arith) ∙ ap (λ (x : ℕ). eqb (w / 2 ^ x % 2) 1) q ∙ ap (λ (x : ℕ). eqb (x % 2) 1) (div-one w))
        ∙ set (w % 2) (mod-lt w (lit< tt))

-- word w of the six
marks_mask : (m : List ℕ) (w i : ℕ) (p : ℕ → Bool) → get_or m w 0 < 2 ^ 64 → ((j : ℕ) → j < 64 → p (i + j) ≡ is_marked m (64 * w + j)) → mask p 64 i ≡ get_or m w 0
unfolding is_marked
marks_mask m w i p h d = word_mask p 64 (get_or m w 0) i h (λ j l. d j l ∙ same j l)
  where
    same : (j : ℕ) → j < 64 → is_marked m (64 * w + j) ≡ eqb (get_or m w 0 / 2 ^ (64 - 1 - j) % 2) 1
    same j l =
        let q : (64 * w + j) / 64 ≡ w = omega arith in
        let r : 63 - (64 * w + j) % 64 ≡ 64 - 1 - j = omega arith in
        ap₂ (λ (x y : ℕ). eqb (get_or m x 0 / 2 ^ y % 2) 1) q r

module _ (m : List ℕ) (k : ℕ) where
  pub valid_mask : get_or m k 0 < 2 ^ 64 → mask (is_marked m) 64 (64 * k) ≡ get_or m k 0
  valid_mask h = marks_mask m k (64 * k) (is_marked m) h (λ j l. refl)

  pub changed_mask : get_or m (3 + k) 0 < 2 ^ 64 → mask (is_changed m) 64 (64 * k) ≡ get_or m (3 + k) 0
  changed_mask h = marks_mask m (3 + k) (64 * k) (is_changed m) h (λ j l. ap (is_marked m) (at j))
    where
      at : (j : ℕ) → 192 + (64 * k + j) ≡ 64 * (3 + k) + j
      at j = omega arith
