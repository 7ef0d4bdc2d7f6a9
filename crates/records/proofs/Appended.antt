-- Bytes and fields of bits of two lists, one behind the other: laws of octets' definitions beside its own. Assumes nothing.
use mathlib.Core.Path.{◌≡◌, refl, ap, ap₂, ◌∙◌}
use mathlib.Core.List.{List, ◌++◌}
use Prim.Native.Nat.{ℕ, zero, suc, ◌+◌, ◌-◌, ◌*◌, ◌/◌, ◌%◌, ◌^◌, ◌≤◌, ◌<◌}
use native.Mathlib.Omega.{arith}
use native.Mathlib.Nat.{zero-add}
use lib.ListN.{length, get_or, take, drop, length-drop, get_or-append}
use lib.Seq.{sets-eq, take-append_seam, take-append-le, drop-append-le, drop-append-add, get_or-append-add}
use Rattle.octets.specs.Bytes.{bytes_at, put}
use Rattle.octets.specs.Bits.{bit, bits}
use Rattle.octets.proofs.Bits.{bits_ext}

module _ (p b : List ℕ) where
  -- ---- of the first
  pub part_first : bytes_at (p ++ b) 0 (length p) ≡ p
  unfolding bytes_at
  part_first = take-append_seam p b

  pub part_within : (i n : ℕ) → i + n ≤ length p → bytes_at (p ++ b) i n ≡ bytes_at p i n
  unfolding bytes_at
  part_within i n h =
      ap (take n) (drop-append-le i p b (omega arith)) ∙ take-append-le n (drop i p) b (omega (arith, length-drop i p))

  bit_first : (j : ℕ) → j < 8 * length p → bit (p ++ b) j ≡ bit p j
  unfolding bit
  bit_first j h = ap (λ (x : ℕ). x / 2 ^ (7 - j % 8) % 2) (get_or-append p b 0 (j / 8) (omega arith))

  pub bits_first : (a n : ℕ) → a + n ≤ 8 * length p → bits (p ++ b) a n ≡ bits p a n
  bits_first a n h = bits_ext (p ++ b) p a n (λ k l. bit_first (a + k) (omega arith))

  -- ---- of the second
  pub part_second : (i n : ℕ) → bytes_at (p ++ b) (length p + i) n ≡ bytes_at b i n
  unfolding bytes_at
  part_second i n = ap (take n) (drop-append-add p b i)

  bit_second : (j : ℕ) → bit (p ++ b) (8 * length p + j) ≡ bit b j
  unfolding bit
  bit_second j =
      let e : (8 * length p + j) / 8 ≡ length p + j / 8 = omega arith in
      let f : (8 * length p + j) % 8 ≡ j % 8 = omega arith in
      ap₂ (λ (i k : ℕ). get_or (p ++ b) i 0 / 2 ^ (7 - k) % 2) e f ∙ ap (λ (x : ℕ). x / 2 ^ (7 - j % 8) % 2) (get_or-append-add p b (j / 8) 0)

  pub bits_second : (a n : ℕ) → bits (p ++ b) (8 * length p + a) n ≡ bits b a n
  unfolding bits
  bits_second a zero = refl
  bits_second a (suc n) =
      let e : 8 * length p + a + n ≡ 8 * length p + (a + n) = omega arith in
      ap₂ (λ (x y : ℕ). x * 2 + y) (bits_second a n) (ap (bit (p ++ b)) e ∙ bit_second (a + n))

-- the first bytes written anew
pub put_first : (b v : List ℕ) → length v ≤ length b → put b 0 v ≡ v ++ drop (length v) b
unfolding put
put_first b v h = sets-eq v b 0 (omega arith) ∙ ap (λ (i : ℕ). v ++ drop i b) (zero-add (length v))
