-- Presence bits as a number, those of elements that follow one another. Assumes nothing.
use mathlib.Core.Path.{◌≡◌, refl, sym, ap, ap₂, ◌∙◌}
use mathlib.Core.Bool.{Bool, true, false, cond}
use mathlib.Core.List.{List}
use Prim.Native.Nat.{ℕ, zero, suc, ◌+◌, ◌-◌, ◌*◌, ◌/◌, ◌%◌, ◌^◌, ◌≤◌, ◌<◌}
use native.Mathlib.Nat.{pow-suc, zero-add, add_assoc, add-mul, mul_assoc}
use native.Mathlib.Numerals.{one-add, add-one}
use native.Mathlib.Decide.{dec_lt}
use native.Mathlib.Omega.{arith}
use mir.Syntax.{w64}
use mir.Val.{Fits}
use lib.Arith as A
use lib.Count.{ones, ones_cat, count_leading_zeros, leading_le, leading_top}
use lib.Dec.{eqb}
use lib.Pow.{pow_pos, pow_mono, pow-add, high, low, ones_split, ones_lt}
use borrow.Author.Tests.{eqb-true}
use Rattle.octets.specs.Bits.{bit, bits}
use Rattle.octets.proofs.Bits.{bit_lt}
use Rattle.handover.specs.Form.{presence, behind, is_shown}

-- ---- one number behind another
pub behind_same : (n x y u w : ℕ) → behind x n y ≡ behind u n w → y < 2 ^ n → w < 2 ^ n → (x ≡ u) × (y ≡ w)
behind_same n x y u w h p q =
    (sym (high x n p) ∙ ap (λ (k : ℕ). k / 2 ^ n) h ∙ high u n q, sym (low x n p) ∙ ap (λ (k : ℕ). k % 2 ^ n) h ∙ low u n q)

pub behind_lt : (k n x y : ℕ) → x < 2 ^ k → y < 2 ^ n → behind x n y < 2 ^ (k + n)
behind_lt k n x y p q = rw (pow-add 2 k n) (A.digits_lt p q)

pub behind_behind : (x n y m z : ℕ) → behind (behind x n y) m z ≡ behind x (n + m) (behind y m z)
behind_behind x n y m z =
    let g : x * 2 ^ (n + m) ≡ x * 2 ^ n * 2 ^ m = ap (λ (k : ℕ). x * k) (pow-add 2 n m) ∙ sym (mul_assoc x (2 ^ n) (2 ^ m)) in
    omega (arith, add-mul (x * 2 ^ n) y (2 ^ m), g)

-- ---- a number of bits
pub bit_of_lem : (p : Bool) → cond {A = ℕ} p 1 0 < 2
bit_of_lem true = omega arith
bit_of_lem false = omega arith

pub presence_lt : (p : ℕ → Bool) (e n : ℕ) → presence p e n < 2 ^ n
unfolding presence
presence_lt p e zero = omega arith
presence_lt p e (suc n) = omega (arith, presence_lt p e n, bit_of_lem (p (e + n)), pow-suc 2 n)

pub presence_ext : (p q : ℕ → Bool) (e n : ℕ) → ((x : ℕ) → e ≤ x → x < e + n → p x ≡ q x) → presence p e n ≡ presence q e n
unfolding presence
presence_ext p q e zero h = refl
presence_ext p q e (suc n) h =
    ap₂ (λ (x : ℕ) (y : Bool). x * 2 + cond y 1 0) (presence_ext p q e n (λ x i j. h x i (omega arith))) (h (e + n) (omega arith) (omega arith))

-- two sets of bits that make one number are the same
bit_same : (p q : Bool) (x y : ℕ) → x * 2 + cond p 1 0 ≡ y * 2 + cond q 1 0 → (x ≡ y) × (p ≡ q)
bit_same true true x y h = (omega arith, refl)
bit_same true false x y h = absurd (omega arith)
bit_same false true x y h = absurd (omega arith)
bit_same false false x y h = (omega arith, refl)

pub presence_same : (p q : ℕ → Bool) (e n : ℕ) → presence p e n ≡ presence q e n → (x : ℕ) → e ≤ x → x < e + n → p x ≡ q x
unfolding presence
presence_same p q e zero h x i j = absurd (omega arith)
presence_same p q e (suc n) h x i j =
    let s = bit_same (p (e + n)) (q (e + n)) (presence p e n) (presence q e n) h in
    last (dec_lt x (e + n)) (presence_same p q e n s.0 x i) s.1
  where
    last : Dec (x < e + n) → (x < e + n → p x ≡ q x) → p (e + n) ≡ q (e + n) → p x ≡ q x
    last (yes k) f g = f k
    last (no k) f g = let z : e + n ≡ x = omega arith in rw (← z) g

pub presence_add : (p : ℕ → Bool) (e n m : ℕ) → presence p e (n + m) ≡ presence p e n * 2 ^ m + presence p (e + n) m
unfolding presence
presence_add p e n zero = let z : n + 0 ≡ n = omega arith in rw z (omega arith)
presence_add p e n (suc m) =
    let z : n + suc m ≡ suc (n + m) = omega arith in
    let c : e + (n + m) ≡ e + n + m = omega arith in
    let g : presence p e n * 2 ^ suc m ≡ presence p e n * 2 ^ m * 2 = ap (λ (k : ℕ). presence p e n * k) (pow-suc 2 m) ∙ sym (mul_assoc (presence p e n) (2 ^ m) 2) in
    ap (presence p e) z ∙ ap₂ (λ (x : ℕ) (y : Bool). x * 2 + cond y 1 0) (presence_add p e n m) (ap p c) ∙ omega (arith, g)

-- the bits of a buffer
shown_bit : (x : ℕ) → x < 2 → x ≡ cond (eqb x 1) 1 0
shown_bit zero h = refl
shown_bit (suc zero) h = refl
shown_bit (suc (suc x)) h = absurd (omega arith)

pub presence_bits : (b : List ℕ) (e n : ℕ) → bits b (16 + e) n ≡ presence (is_shown b) e n
unfolding presence bits is_shown
presence_bits b e zero = refl
presence_bits b e (suc n) =
    ap₂ (λ (x y : ℕ). x * 2 + y) (presence_bits b e n)
    (ap (bit b) (add_assoc 16 e n) ∙ shown_bit (bit b (16 + (e + n))) (bit_lt b (16 + (e + n))))

-- ---- its first bit
pub presence_first : (p : ℕ → Bool) (e n : ℕ) → presence p e (suc n) ≡ behind (cond (p e) 1 0) n (presence p (e + 1) n)
unfolding presence
presence_first p e n =
    let z : e + 0 ≡ e = omega arith in
    ap (presence p e) (sym (one-add n)) ∙ presence_add p e 1 n
    ∙ ap (λ (k : ℕ). behind k n (presence p (e + 1) n)) (zero-add (cond (p (e + 0)) 1 0) ∙ ap (λ (k : ℕ). cond (p k) 1 0) z)

-- the first element that is shown present: k is the top digit of the number
pub record Top (p : ℕ → Bool) (e to k x : ℕ) : Type 0 where
  pub before : e + k < to
  pub set : p (to - k - 1) ≡ true
  pub clear : (y : ℕ) → e ≤ y → y < to - k - 1 → p y ≡ false
  pub rest : presence p (to - k) k ≡ x - 2 ^ k

pub top_shown : (p : ℕ → Bool) (n e to k x : ℕ) → e + n ≡ to → x ≡ presence p e n → 2 ^ k ≤ x → x < 2 ^ (k + 1) → Top p e to k x
unfolding presence
top_shown p zero e to k x t m l h = let z = pow_pos k in absurd (omega arith)
top_shown p (suc n) e to k x t m l h = go (p e) refl (dec_lt k n) (dec_lt n k) (λ (q : x ≡ presence p (e + 1) n). top_shown p n (e + 1) to k x (omega arith) q l h)
  where
    at_first : presence p e (suc n) ≡ behind (cond (p e) 1 0) n (presence p (e + 1) n)
    at_first = presence_first p e n

    small : presence p (e + 1) n < 2 ^ n
    small = presence_lt p (e + 1) n

    go : (c : Bool) → p e ≡ c → Dec (k < n) → Dec (n < k) → (x ≡ presence p (e + 1) n → Top p (e + 1) to k x) → Top p e to k x
    go true c (yes i) j ih =
        let q : x ≡ behind 1 n (presence p (e + 1) n) = m ∙ at_first ∙ ap (λ (b : Bool). behind (cond b 1 0) n (presence p (e + 1) n)) c in
        let u : 2 ^ (k + 1) ≤ 2 ^ n = pow_mono {i = k + 1} {j = n} (omega arith) in
        absurd (omega arith)
    go true c (no i) (yes j) ih =
        let q : x ≡ behind 1 n (presence p (e + 1) n) = m ∙ at_first ∙ ap (λ (b : Bool). behind (cond b 1 0) n (presence p (e + 1) n)) c in
        let u : 2 ^ (n + 1) ≤ 2 ^ k = pow_mono {i = n + 1} {j = k} (omega arith) in
        let w : 2 ^ (n + 1) ≡ 2 ^ n * 2 = ap (λ (i : ℕ). 2 ^ i) (add-one n) ∙ pow-suc 2 n in
        absurd (omega (arith, small))
    go true c (no i) (no j) ih =
        let q : x ≡ behind 1 n (presence p (e + 1) n) = m ∙ at_first ∙ ap (λ (b : Bool). behind (cond b 1 0) n (presence p (e + 1) n)) c in
        let z : k ≡ n = omega arith in
        let f : to - k - 1 ≡ e = omega arith in
        let g : to - k ≡ e + 1 = omega arith in
        let w : 2 ^ k ≡ 2 ^ n = ap (λ (i : ℕ). 2 ^ i) z in
        record {
          before = omega arith;
          set = ap p f ∙ c;
          clear = λ y a b. absurd (omega arith);
          rest = ap₂ (presence p) g z ∙ omega (arith, q, w);
        }
    go false c i j ih =
        let q : x ≡ presence p (e + 1) n = m ∙ at_first ∙ ap (λ (b : Bool). behind (cond b 1 0) n (presence p (e + 1) n)) c ∙ omega arith in
        let r = ih q in
        record {
          before = omega (arith, r.before);
          set = r.set;
          clear = λ y a b. first y (dec_lt e y) a (λ (d : e + 1 ≤ y). r.clear y d b);
          rest = r.rest;
        }
      where
        first : (y : ℕ) → Dec (e < y) → e ≤ y → (e + 1 ≤ y → p y ≡ false) → p y ≡ false
        first y (yes d) a f = f (omega arith)
        first y (no d) a f = let z : e ≡ y = omega arith in rw (← z) c

-- how many are
pub ones_first : (p : ℕ → Bool) (e n : ℕ) → ones (presence p e (suc n)) ≡ cond (p e) 1 0 + ones (presence p (e + 1) n)
unfolding ones
ones_first p e n = ap ones (presence_first p e n) ∙ ones_cat n (cond (p e) 1 0) (presence p (e + 1) n) (presence_lt p (e + 1) n) ∙ ap (λ (k : ℕ). k + ones (presence p (e + 1) n)) (one_bit (p e))
  where
    one_bit : (c : Bool) → ones (cond c 1 0) ≡ cond c 1 0
    one_bit true = refl
    one_bit false = refl

-- all are
presence_all : (e n : ℕ) → presence (λ (x : ℕ). true) e n ≡ 2 ^ n - 1
unfolding presence
presence_all e zero = refl
presence_all e (suc n) = omega (arith, presence_all e n, pow-suc 2 n, pow_pos n)

pub full_shown : (p : ℕ → Bool) (e n x : ℕ) → x ≡ presence p e n → eqb x (2 ^ n - 1) ≡ true → (y : ℕ) → e ≤ y → y < e + n → p y ≡ true
full_shown p e n x m t = presence_same p (λ (y : ℕ). true) e n (sym m ∙ eqb-true x (2 ^ n - 1) t ∙ sym (presence_all e n))

-- none are
presence_none : (e n : ℕ) → presence (λ (x : ℕ). false) e n ≡ 0
unfolding presence
presence_none e zero = refl
presence_none e (suc n) = omega (arith, presence_none e n)

pub none_shown : (p : ℕ → Bool) (e n : ℕ) → 0 ≡ presence p e n → (y : ℕ) → e ≤ y → y < e + n → p y ≡ false
none_shown p e n m = presence_same p (λ (y : ℕ). false) e n (sym m ∙ sym (presence_none e n))

-- a number of n + k bits, cut
module _ (n k : ℕ) (p : ℕ → Bool) (e m : ℕ) (h : m ≡ presence p e (n + k)) where
  pub presence_high : m / 2 ^ k ≡ presence p e n
  presence_high = ap (λ (x : ℕ). x / 2 ^ k) (h ∙ presence_add p e n k) ∙ high (presence p e n) k (presence_lt p (e + n) k)

  pub presence_low : m % 2 ^ k ≡ presence p (e + n) k
  presence_low = ap (λ (x : ℕ). x % 2 ^ k) (h ∙ presence_add p e n k) ∙ low (presence p e n) k (presence_lt p (e + n) k)

-- the part in the middle
pub presence_mid : (n k l : ℕ) (p : ℕ → Bool) (e m : ℕ) → m ≡ presence p e (n + k + l) → m / 2 ^ l % 2 ^ k ≡ presence p (e + n) k
presence_mid n k l p e m h = presence_low n k p e (m / 2 ^ l) (presence_high (n + k) l p e m h)

-- ---- the code's needs
pub top_fits : (x : ℕ) → Fits w64 (count_leading_zeros 64 x)
top_fits x = record { fits = omega (arith, leading_le 64 x) }

module _ (x : ℕ) (h : 0 < x) (l : x < 2 ^ 64) where
  top : (j : ℕ) × (count_leading_zeros 64 x + suc j ≡ 64) × (2 ^ j ≤ x) × (x < 2 ^ suc j)
  top = leading_top 64 x h l

  pub top_under : count_leading_zeros 64 x ≤ 63
  top_under = omega (arith, top.1)

  pub top_below : 63 - count_leading_zeros 64 x < 64
  top_below = omega (arith, top.1)

  top_is : 63 - count_leading_zeros 64 x ≡ top.0
  top_is = omega (arith, top.1)

  pub top_reached : 2 ^ (63 - count_leading_zeros 64 x) ≤ x
  top_reached = rw top_is top.2

  pub top_not_passed : x < 2 ^ (63 - count_leading_zeros 64 x + 1)
  top_not_passed = rw (top_is, add-one top.0) top.3

pub full_test : (m n : ℕ) → 0 < n → n ≤ 64 → eqb m (18446744073709551615 / 2 ^ (64 - n)) ≡ eqb m (2 ^ n - 1)
full_test m n h l =
    let e : n + (64 - n) ≡ 64 = omega arith in
    ap (λ (k : ℕ). eqb m ((2 ^ k - 1) / 2 ^ (64 - n))) (sym e) ∙ ap (λ (k : ℕ). eqb m (k / 2 ^ (64 - n))) (ones_split n (64 - n)) ∙ ap (eqb m) (high (2 ^ n - 1) (64 - n) (ones_lt (64 - n)))
