-- What setting a mark does to each mark. Assumes nothing.
use mathlib.Core.Path.{◌≡◌, refl, sym, ap, ◌∙◌}
use mathlib.Core.Bool.{true, false}
use mathlib.Core.List.{List}
use Prim.{Dec, yes, no}
use Prim.Native.Nat.{ℕ, zero, suc, ◌+◌, ◌-◌, ◌*◌, ◌/◌, ◌%◌, ◌^◌, ◌<◌}
use native.Mathlib.Nat.{mod-lt, pow-suc, one-mul, not-suc-le-zero, le_of_suc-le-suc, div-eq_of_lt}
use native.Mathlib.Decide.{ℕ_discrete, dec_lt}
use native.Mathlib.Omega.{arith}
use lib.Dec.{eqb, lit<}
use lib.ListN.{length, get_or, set, length-set}
use lib.Seq.{get_or-set_same, get_or-set_other}
use lib.Pow.{pow-add, pow-lt, pow_pos, shl-shr}
use lib.Bits.{bit_or, or_shr, or_mod}
use borrow.Author.Tests.{eq-eqb}
use Rattle.octets.specs.Bytes.{zeros}
use Rattle.l1.specs.Marks.{is_marked, with_mark}

-- ---- the digits of a power of two, and of a number with one of them set
pow_same : (k : ℕ) → 2 ^ k / 2 ^ k % 2 ≡ 1
pow_same k = ap (λ (m : ℕ). m / 2 ^ k % 2) (sym (one-mul (2 ^ k))) ∙ ap (λ (m : ℕ). m % 2) (shl-shr 1 k)

pow_below : (k j : ℕ) → j < k → 2 ^ k / 2 ^ j % 2 ≡ 0
pow_below k j h =
    let e : suc (k - j - 1) + j ≡ k = omega arith in
    let w : 2 ^ k ≡ 2 ^ suc (k - j - 1) * 2 ^ j = ap (λ (m : ℕ). 2 ^ m) (sym e) ∙ pow-add 2 (suc (k - j - 1)) j in
    ap (λ (m : ℕ). m / 2 ^ j % 2) w ∙ ap (λ (m : ℕ). m % 2) (shl-shr (2 ^ suc (k - j - 1)) j) ∙ omega (arith, pow-suc 2 (k - j - 1))

pow_above : (k j : ℕ) → k < j → 2 ^ k / 2 ^ j % 2 ≡ 0
pow_above k j h = ap (λ (m : ℕ). m % 2) (div-eq_of_lt (pow-lt h))

or_one : (x : ℕ) → x < 2 → bit_or x 1 ≡ 1
or_one zero h = refl
or_one (suc zero) h = refl
or_one (suc (suc x)) h = absurd (not-suc-le-zero (le_of_suc-le-suc (le_of_suc-le-suc h)))

or_none : (x : ℕ) → x < 2 → bit_or x 0 ≡ x
or_none zero h = refl
or_none (suc zero) h = refl
or_none (suc (suc x)) h = absurd (not-suc-le-zero (le_of_suc-le-suc (le_of_suc-le-suc h)))

or_digit : (w v j : ℕ) → bit_or w v / 2 ^ j % 2 ≡ bit_or (w / 2 ^ j % 2) (v / 2 ^ j % 2)
or_digit w v j = ap (λ (m : ℕ). m % 2) (or_shr w v j) ∙ or_mod (w / 2 ^ j) (v / 2 ^ j) 1

digit_set : (w k : ℕ) → bit_or w (2 ^ k) / 2 ^ k % 2 ≡ 1
digit_set w k = or_digit w (2 ^ k) k ∙ ap (λ (m : ℕ). bit_or (w / 2 ^ k % 2) m) (pow_same k) ∙ or_one (w / 2 ^ k % 2) (mod-lt (w / 2 ^ k) (lit< tt))

digit_kept : (w k j : ℕ) → 2 ^ k / 2 ^ j % 2 ≡ 0 → bit_or w (2 ^ k) / 2 ^ j % 2 ≡ w / 2 ^ j % 2
digit_kept w k j z = or_digit w (2 ^ k) j ∙ ap (λ (m : ℕ). bit_or (w / 2 ^ j % 2) m) z ∙ or_none (w / 2 ^ j % 2) (mod-lt (w / 2 ^ j) (lit< tt))

-- ---- marks
abbrev digit : List ℕ → ℕ → ℕ
digit m i = get_or m (i / 64) 0 / 2 ^ (63 - i % 64) % 2

pub mark_same : (m : List ℕ) (i : ℕ) → i / 64 < length m → is_marked (with_mark m i) i ≡ true
unfolding is_marked with_mark
mark_same m i h =
    eq-eqb _ _ (ap (λ (w : ℕ). w / 2 ^ (63 - i % 64) % 2) (get_or-set_same m (i / 64) (bit_or (get_or m (i / 64) 0) (2 ^ (63 - i % 64))) 0 h)
    ∙ digit_set (get_or m (i / 64) 0) (63 - i % 64))

abbrev marking : List ℕ → ℕ → List ℕ
marking m i = set m (i / 64) (bit_or (get_or m (i / 64) 0) (2 ^ (63 - i % 64)))

same_word : (m : List ℕ) (i k : ℕ) → i / 64 < length m → k / 64 ≡ i / 64 → 2 ^ (63 - i % 64) / 2 ^ (63 - k % 64) % 2 ≡ 0 → digit (marking m i) k ≡ digit m k
same_word m i k h q z =
    ap (λ (a : ℕ). get_or (marking m i) a 0 / 2 ^ (63 - k % 64) % 2) q
    ∙ ap (λ (w : ℕ). w / 2 ^ (63 - k % 64) % 2) (get_or-set_same m (i / 64) (bit_or (get_or m (i / 64) 0) (2 ^ (63 - i % 64))) 0 h)
    ∙ digit_kept (get_or m (i / 64) 0) (63 - i % 64) (63 - k % 64) z
    ∙ ap (λ (a : ℕ). get_or m a 0 / 2 ^ (63 - k % 64) % 2) (sym q)

in_word : (m : List ℕ) (i k : ℕ) → i / 64 < length m → (k ≡ i → ⊥) → k / 64 ≡ i / 64 → Dec (k % 64 < i % 64) → digit (marking m i) k ≡ digit m k
in_word m i k h n q (yes lt) = same_word m i k h q (pow_above (63 - i % 64) (63 - k % 64) (omega arith))
in_word m i k h n q (no ge) = same_word m i k h q (pow_below (63 - i % 64) (63 - k % 64) (omega arith))

by_word : (m : List ℕ) (i k : ℕ) → i / 64 < length m → (k ≡ i → ⊥) → Dec (k / 64 ≡ i / 64) → digit (marking m i) k ≡ digit m k
by_word m i k h n (yes q) = in_word m i k h n q (dec_lt (k % 64) (i % 64))
by_word m i k h n (no q) = ap (λ (w : ℕ). w / 2 ^ (63 - k % 64) % 2) (get_or-set_other m (i / 64) (k / 64) _ 0 q)

pub mark_other : (m : List ℕ) (i k : ℕ) → i / 64 < length m → (k ≡ i → ⊥) → is_marked (with_mark m i) k ≡ is_marked m k
unfolding is_marked with_mark
mark_other m i k h n = ap (λ (d : ℕ). eqb d 1) (by_word m i k h n (ℕ_discrete (k / 64) (i / 64)))

pub length_mark : (m : List ℕ) (i : ℕ) → length (with_mark m i) ≡ length m
unfolding with_mark
length_mark m i = length-set m (i / 64) (bit_or (get_or m (i / 64) 0) (2 ^ (63 - i % 64)))

-- six words hold 384 marks
pub word_below : (m : List ℕ) (i : ℕ) → length m ≡ 6 → i < 384 → i / 64 < length m
word_below m i e h = omega arith

zero_word : (n i : ℕ) → get_or (zeros n) i 0 ≡ 0
unfolding zeros
zero_word zero i = refl
zero_word (suc n) zero = refl
zero_word (suc n) (suc i) = zero_word n i

zero_digit : (k : ℕ) → 0 / 2 ^ k % 2 ≡ 0
zero_digit k = ap (λ (x : ℕ). x % 2) (div-eq_of_lt (pow_pos k))

pub mark_none : (n i : ℕ) → is_marked (zeros n) i ≡ false
unfolding is_marked
mark_none n i =
    let z : get_or (zeros n) (i / 64) 0 / 2 ^ (63 - i % 64) % 2 ≡ 0 = ap (λ (w : ℕ). w / 2 ^ (63 - i % 64) % 2) (zero_word n (i / 64)) ∙ zero_digit (63 - i % 64) in
    ap (λ (d : ℕ). eqb d 1) z
