-- A value that is all zero, by bytes and by numbers, in the form of the code's needs. Assumes nothing.
use mathlib.Core.Path.{◌≡◌, refl, sym, ap, ap₂, ◌∙◌}
use mathlib.Core.Bool.{Bool, true, false, ◌&&◌}
use mathlib.Core.List.{List, [], ◌∷◌, ◌++◌}
use Prim.Native.Nat.{ℕ, zero, suc, ◌+◌, ◌*◌, ◌≤◌, ◌<◌}
use native.Mathlib.Numerals.{add-one}
use native.Mathlib.Decide.{ℕ_discrete}
use native.Mathlib.Omega.{arith}
use lib.Bits.{bit_or, bit_and, and_le_l, and_le_r, or_add_and}
use lib.Dec.{eqb}
use lib.ListN.{length, get_or, take, drop}
use borrow.Author.Tests.{eq-eqb, ne_eqb, eqb-true}
use mathlib.Core.Logic.{◌↔◌}
use Rattle.std.proofs.Common.{All, IsTrue}
use Rattle.octets.specs.Bytes.{bytes_at, be}
use Rattle.octets.proofs.Bytes.{part_none, part_one, part_append, part_lent}
use Rattle.handover.specs.Form.{is_zero}

and_parts : (p q : Bool) → p && q ≡ true → (p ≡ true) × (q ≡ true)
and_parts true q e = (refl, e)
and_parts false q e = absurd (cc)

zero_append : (x y : List ℕ) → is_zero (x ++ y) ≡ is_zero x && is_zero y
unfolding is_zero
zero_append [] y = refl
zero_append (a ∷ x) y = ap (λ (t : Bool). eqb a 0 && t) (zero_append x y) ∙ shift (eqb a 0) (is_zero x) (is_zero y)
  where
    shift : (p q r : Bool) → p && (q && r) ≡ (p && q) && r
    shift true q r = refl
    shift false q r = refl

zero_parts : (s : List ℕ) (at n m : ℕ) → is_zero (bytes_at s at (n + m)) ≡ is_zero (bytes_at s at n) && is_zero (bytes_at s (at + n) m)
zero_parts s at n m = ap is_zero (part_append s at n m) ∙ zero_append (bytes_at s at n) (bytes_at s (at + n) m)

zero_byte : (s : List ℕ) (at : ℕ) → at < length s → is_zero (bytes_at s at 1) ≡ eqb (get_or s at 0) 0
unfolding is_zero
zero_byte s at h = ap is_zero (part_one s at h) ∙ end (eqb (get_or s at 0) 0)
  where
    end : (p : Bool) → p && true ≡ p
    end true = refl
    end false = refl

-- ---- by bytes
all_zero : (x : List ℕ) → All (λ (a : ℕ). a ≡ 0) x → is_zero x ≡ true
unfolding is_zero
all_zero [] h = refl
all_zero (a ∷ x) h = ap₂ (λ (p q : Bool). p && q) (eq-eqb a 0 (h 0 0 (omega arith))) (all_zero x (λ k d l. h (suc k) d (omega arith)))

zero_each : (x : List ℕ) → is_zero x ≡ true → All (λ (a : ℕ). a ≡ 0) x
unfolding is_zero
zero_each [] e k d l = absurd (omega arith)
zero_each (a ∷ x) e zero d l = eqb-true a 0 (and_parts (eqb a 0) (is_zero x) e).0
zero_each (a ∷ x) e (suc k) d l = zero_each x (and_parts (eqb a 0) (is_zero x) e).1 k d (omega arith)

pub zero_all : (s : List ℕ) (at n : ℕ) (r : Bool) → IsTrue r ↔ All (λ (a : ℕ). a ≡ 0) (take n (drop at s)) → r ≡ is_zero (bytes_at s at n)
zero_all s at n r h = go r (is_zero (take n (drop at s))) refl refl ∙ ap is_zero (part_lent s at n)
  where
    go : (p q : Bool) → r ≡ p → is_zero (take n (drop at s)) ≡ q → r ≡ is_zero (take n (drop at s))
    go true q e f = e ∙ sym (all_zero (take n (drop at s)) (h.0 e))
    go false false e f = e ∙ sym f
    go false true e f = h.1 (zero_each (take n (drop at s)) f) ∙ sym f

-- ---- by numbers
sum_zero : (x y : ℕ) → eqb (x * 256 + y) 0 ≡ eqb x 0 && eqb y 0
sum_zero x y = go (ℕ_discrete x 0) (ℕ_discrete y 0)
  where
    go : Dec (x ≡ 0) → Dec (y ≡ 0) → eqb (x * 256 + y) 0 ≡ eqb x 0 && eqb y 0
    go (yes p) (yes q) = let e : x * 256 + y ≡ 0 = omega arith in simp (eq-eqb _ _ e, eq-eqb _ _ p, eq-eqb _ _ q)
    go (yes p) (no q) = let e : x * 256 + y ≡ 0 → ⊥ = λ e. omega arith in simp (ne_eqb _ _ e, eq-eqb _ _ p, ne_eqb _ _ q)
    go (no p) q = let e : x * 256 + y ≡ 0 → ⊥ = λ e. omega arith in simp (ne_eqb _ _ e, ne_eqb _ _ p)

zero_number : (s : List ℕ) (at n : ℕ) → at + n ≤ length s → is_zero (bytes_at s at n) ≡ eqb (be s at n) 0
unfolding be is_zero
zero_number s at zero h = ap is_zero (part_none s at)
zero_number s at (suc n) h =
    ap (λ (k : ℕ). is_zero (bytes_at s at k)) (sym (add-one n)) ∙ zero_parts s at n 1
    ∙ ap₂ (λ (p q : Bool). p && q) (zero_number s at n (omega arith)) (zero_byte s (at + n) (omega arith))
    ∙ sym (sum_zero (be s at n) (get_or s (at + n) 0))

or_zero : (x y : ℕ) → eqb (bit_or x y) 0 ≡ eqb x 0 && eqb y 0
or_zero x y = go (ℕ_discrete x 0) (ℕ_discrete y 0)
  where
    sum : bit_or x y + bit_and x y ≡ x + y
    sum = or_add_and x y

    go : Dec (x ≡ 0) → Dec (y ≡ 0) → eqb (bit_or x y) 0 ≡ eqb x 0 && eqb y 0
    go (yes p) (yes q) = let e : bit_or x y ≡ 0 = omega (arith, sum) in simp (eq-eqb _ _ e, eq-eqb _ _ p, eq-eqb _ _ q)
    go (yes p) (no q) = let e : bit_or x y ≡ 0 → ⊥ = λ e. omega (arith, sum, and_le_l x y) in simp (ne_eqb _ _ e, eq-eqb _ _ p, ne_eqb _ _ q)
    go (no p) q = let e : bit_or x y ≡ 0 → ⊥ = λ e. omega (arith, sum, and_le_r x y) in simp (ne_eqb _ _ e, ne_eqb _ _ p)

-- a number of k bytes, and one behind it, the size being n
pub zero_one : (k : ℕ) (s : List ℕ) (at n x : ℕ) → n ≡ k → at + n ≤ length s → x ≡ be s at k → eqb x 0 ≡ is_zero (bytes_at s at n)
zero_one k s at n x e h p =
    ap (λ (y : ℕ). eqb y 0) p ∙ sym (zero_number s at k (omega arith)) ∙ ap (λ (i : ℕ). is_zero (bytes_at s at i)) (sym e)

zero_or : (k m : ℕ) (s : List ℕ) (at n x y : ℕ) → n ≡ k + m → at + n ≤ length s → x ≡ be s at k → eqb y 0 ≡ is_zero (bytes_at s (at + k) m)
    → eqb (bit_or x y) 0 ≡ is_zero (bytes_at s at n)
zero_or k m s at n x y e h p q =
    or_zero x y ∙ ap₂ (λ (i j : Bool). i && j) (zero_one k s at k x refl (omega arith) p) q ∙ sym (ap (λ (i : ℕ). is_zero (bytes_at s at i)) e ∙ zero_parts s at k m)

pub zero_two : (k m : ℕ) (s : List ℕ) (at n x y : ℕ) → n ≡ k + m → at + n ≤ length s → x ≡ be s at k → y ≡ be s (at + k) m
    → eqb (bit_or x y) 0 ≡ is_zero (bytes_at s at n)
zero_two k m s at n x y e h p q = zero_or k m s at n x y e h p (zero_one m s (at + k) m y refl (omega arith) q)
