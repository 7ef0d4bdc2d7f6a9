-- Places, zero values, and the values of a state one by one. Assumes nothing.
use mathlib.Core.Path.{◌≡◌, refl, sym, ap, ap₂, ◌∙◌}
use mathlib.Core.Bool.{Bool, true, false, ◌&&◌}
use mathlib.Core.List.{List, [], ◌∷◌, ◌++◌}
use Prim.Native.Nat.{ℕ, zero, suc, ◌+◌, ◌-◌, ◌≤◌, ◌<◌}
use native.Mathlib.Numerals.{add-one}
use native.Mathlib.Decide.{dec_lt}
use native.Mathlib.Omega.{arith}
use lib.Dec.{eqb}
use lib.ListN.{length, take, drop}
use lib.Seq.{take_at, drop_at}
use borrow.Author.Tests.{eqb-true}
use Rattle.octets.specs.Bytes.{bytes_at, zeros}
use Rattle.octets.proofs.Bytes.{part_none, part_append, length_bytes_at}
use Rattle.elements.specs.Table.{table, below, position, numbered, thread_element}
use Rattle.handover.specs.Form.{state_bytes, count, size, is_zero, value}
use Rattle.handover.specs.Private.{place}

-- ---- places
pub place_next : (e : ℕ) → place (e + 1) ≡ place e + size e
unfolding place
place_next e = ap place (add-one e)

pub place_more : (n e : ℕ) → place e ≤ place (e + n)
place_more zero e = let z : e + 0 ≡ e = omega arith in omega (arith, ap place z)
place_more (suc n) e =
    let z : e + suc n ≡ e + 1 + n = omega arith in
    omega (arith, ap place z, place_more n (e + 1), place_next e)

-- the first of the elements from e on
place_first : (n e : ℕ) → place e + size e ≤ place (e + suc n)
place_first n e =
    let z : e + suc n ≡ e + 1 + n = omega arith in
    omega (arith, ap place z, place_more n (e + 1), place_next e)

pub place_rest : (n e : ℕ) → place (e + 1 + n) ≡ place (e + suc n)
place_rest n e = let z : e + 1 + n ≡ e + suc n = omega arith in ap place z

pub both : (a b : Bool) → a && b ≡ true → (a ≡ true) × (b ≡ true)
both true b h = (refl, h)
both false b h = let z : ◌≡◌ {A = ℕ} 0 1 = cc in absurd (omega arith)

-- ---- places are the positions of the table of elements, by one computed test: from `at` on, the n values from e on lie one behind the
-- other
placed : ℕ → ℕ → ℕ → Bool
placed e zero at = true
placed e (suc n) at = eqb (thread_element e).position at && placed (e + 1) n (at + size e)

placed_at : (n e at : ℕ) → placed e n at ≡ true → at ≡ place e → (x : ℕ) → e ≤ x → x < e + n → (thread_element x).position ≡ place x
unfolding placed
placed_at zero e at t p x i j = absurd (omega arith)
placed_at (suc n) e at t p x i j =
    let q = both (eqb (thread_element e).position at) (placed (e + 1) n (at + size e)) t in
    first (dec_lt e x) (eqb-true _ _ q.0 ∙ p) (λ (l : e + 1 ≤ x). placed_at n (e + 1) (at + size e) q.1 (omega (arith, place_next e)) x l (omega arith))
  where
    first : Dec (e < x) → (thread_element e).position ≡ place e → (e + 1 ≤ x → (thread_element x).position ≡ place x) → (thread_element x).position ≡ place x
    first (yes l) a f = f (omega arith)
    first (no l) a f = let z : e ≡ x = omega arith in rw (← z) a

all_placed : placed 0 count 0 ≡ true
unfolding placed size thread_element numbered table position below
all_placed = refl

pub place_none : place 0 ≡ 0
unfolding place
place_none = refl

pub place_all_lem : place count ≡ state_bytes
unfolding place size thread_element numbered table
place_all_lem = refl

pub position_is : (e : ℕ) → e < count → (thread_element e).position ≡ place e
position_is e h = placed_at count 0 0 all_placed (sym place_none) e (omega arith) h

pub value_at_lem : (v : List ℕ) (e : ℕ) → e < count → value v e ≡ bytes_at v (place e) (size e)
value_at_lem v e h = ap (λ (p : ℕ). bytes_at v p (size e)) (position_is e h)

-- ---- all zero
pub zero_is : (x : List ℕ) → is_zero x ≡ true → x ≡ zeros (length x)
unfolding is_zero zeros
zero_is [] h = refl
zero_is (a ∷ x) h =
    let p = both (eqb a 0) (is_zero x) h in
    ap₂ (λ (n : ℕ) (l : List ℕ). n ∷ l) (eqb-true a 0 p.0) (zero_is x p.1)

pub zeros_zero : (n : ℕ) → is_zero (zeros n) ≡ true
unfolding is_zero zeros
zeros_zero zero = refl
zeros_zero (suc n) = zeros_zero n

-- ---- lists that are cut at the same place
pub cut : (n : ℕ) (a b c d : List ℕ) → length a ≡ n → length c ≡ n → a ++ b ≡ c ++ d → (a ≡ c) × (b ≡ d)
cut n a b c d p q e =
    (sym (take_at a b n p) ∙ ap (take n) e ∙ take_at c d n q, sym (drop_at a b n p) ∙ ap (drop n) e ∙ drop_at c d n q)

-- ---- the values of the n elements from e on, one by one
unfoldable pub all : List ℕ → ℕ → ℕ → List ℕ
all v e zero = []
all v e (suc n) = value v e ++ all v (e + 1) n

pub all_part : (v : List ℕ) (n e : ℕ) → e + n ≤ count → all v e n ≡ bytes_at v (place e) (place (e + n) - place e)
unfolding all
all_part v zero e c =
    let z : e + 0 ≡ e = omega arith in
    let d : place (e + 0) - place e ≡ 0 = omega (arith, ap place z) in
    sym (ap (bytes_at v (place e)) d ∙ part_none v (place e))
all_part v (suc n) e c =
    let d : size e + (place (e + 1 + n) - place (e + 1)) ≡ place (e + suc n) - place e =
    omega (arith, place_rest n e, place_next e, place_more n (e + 1)) in
    ap₂ (λ (x l : List ℕ). x ++ l) (value_at_lem v e (omega arith)) (all_part v n (e + 1) (omega arith))
    ∙ ap (λ (p : ℕ). bytes_at v (place e) (size e) ++ bytes_at v p (place (e + 1 + n) - place (e + 1))) (place_next e)
    ∙ sym (part_append v (place e) (size e) (place (e + 1 + n) - place (e + 1)))
    ∙ ap (bytes_at v (place e)) d

pub value_long : (v : List ℕ) (n e : ℕ) → e + suc n ≤ count → place (e + suc n) ≤ length v → length (value v e) ≡ size e
value_long v n e c h = ap length (value_at_lem v e (omega arith)) ∙ length_bytes_at v (place e) (size e) (omega (arith, place_first n e))
