-- A field of bits within four bytes, in the form of the code's needs. Assumes nothing.
use mathlib.Core.Path.{◌≡◌, sym, ap, ap₂, ◌∙◌}
use mathlib.Core.List.{List}
use Prim.Native.Nat.{ℕ, ◌+◌, ◌-◌, ◌*◌, ◌/◌, ◌%◌, ◌^◌, ◌≤◌, ◌<◌}
use native.Mathlib.Omega.{arith}
use native.Mathlib.Nat.{mod-eq_of_lt, mul-div-mul_right}
use mir.Syntax.{w8}
use mir.Val.{Fits}
use lib.ListN.{length, get_or}
use lib.Pow.{pow_pos, pow-add, field, split, shl_exact}
use Rattle.octets.specs.Bytes.{be, put, digits}
use Rattle.octets.specs.Bits.{bits, ins, put_bits}
use Rattle.octets.proofs.Bits.{bits_within, bits_be, put_within, put_bytes, ins_lt}

-- ---- digits of a number
module _ (x k n v : ℕ) (hx : x < 2 ^ 32) (hk : k + n ≤ 32) (hv : v < 2 ^ n) where
  -- a number shifted down and up again is no larger, so nothing is lost
  down_up : (j : ℕ) → x / 2 ^ j * 2 ^ j % 2 ^ 64 ≡ x / 2 ^ j * 2 ^ j
  down_up j = mod-eq_of_lt (omega (arith, split x j))

  pub digits_low : x / 2 ^ k * 2 ^ k % 2 ^ 64 ≤ x
  digits_low = omega (arith, down_up k, split x k)

  pub digits_are : x / 2 ^ (k + n) * 2 ^ (k + n) % 2 ^ 64 + v * 2 ^ k % 2 ^ 64 + (x - x / 2 ^ k * 2 ^ k % 2 ^ 64) ≡ ins x k n v
  unfolding ins
  digits_are =
      let low : x - x / 2 ^ k * 2 ^ k % 2 ^ 64 ≡ x % 2 ^ k = omega (arith, down_up k, split x k) in
      let mid : v * 2 ^ k % 2 ^ 64 ≡ v % 2 ^ n * 2 ^ k = shl_exact n k 64 hv (omega arith) ∙ ap (λ (z : ℕ). z * 2 ^ k) (sym (mod-eq_of_lt hv)) in
      ap₂ (λ (y z : ℕ). y + z) (ap₂ (λ (y z : ℕ). y + z) (down_up (k + n)) mid) low

  pub digits_fit : ins x k n v < 2 ^ 32
  digits_fit = ins_lt x k n v 32 hx hk

-- ---- a field of at most 25 bits lies in the four bytes from its first one on
module _ (s : List ℕ) (small : (k : ℕ) → Fits w8 (get_or s k 0)) (at w : ℕ) (hi : w ≤ 25) where
  around : 8 * 4 ≡ at % 8 + (w + (32 - w - at % 8))
  around = omega arith

  four : be s (at / 8) 4 ≡ bits s (8 * (at / 8)) (at % 8 + (w + (32 - w - at % 8)))
  four = sym (bits_be s (at / 8) 4 (λ k h. (small (at / 8 + k)).fits)) ∙ ap (bits s (8 * (at / 8))) around

  place : 8 * (at / 8) + at % 8 ≡ at
  place = omega arith

  pub field_read : (x : ℕ) → 1 ≤ w → x ≡ be s (at / 8) 4 → x * 2 ^ (at % 8) % 2 ^ 32 / 2 ^ (32 - w) ≡ bits s at w
  field_read x lo e =
      let r = at % 8 in
      let t = 32 - w - at % 8 in
      let n : 32 ≡ w + (32 - w) = omega arith in
      let m : 32 - w ≡ 32 - w - at % 8 + at % 8 = omega arith in
      ap (λ (k : ℕ). x * 2 ^ r % 2 ^ k / 2 ^ (32 - w)) n
      ∙ field (x * 2 ^ r) w (32 - w)
      ∙ ap (λ (k : ℕ). x * 2 ^ r / k % 2 ^ w) (ap (λ (k : ℕ). 2 ^ k) m ∙ pow-add 2 t r)
      ∙ ap (λ (k : ℕ). k % 2 ^ w) (mul-div-mul_right x (2 ^ t) (pow_pos r))
      ∙ ap (λ (k : ℕ). k / 2 ^ t % 2 ^ w) (e ∙ four)
      ∙ bits_within s (8 * (at / 8)) r w t
      ∙ ap (λ (k : ℕ). bits s k w) place

  pub field_put : (x y v : ℕ) (t : List ℕ) → at / 8 + 4 ≤ length s → x ≡ be s (at / 8) 4 → y ≡ ins x (32 - w - at % 8) w v
      → t ≡ put s (at / 8) (digits 4 y) → t ≡ put_bits s at w v
  field_put x y v t l e f g =
      let r = at % 8 in
      let b = 32 - w - at % 8 in
      g ∙ sym (put_bytes s (at / 8) 4 y l (λ k h. (small (at / 8 + k)).fits))
      ∙ ap₂ (λ (n z : ℕ). put_bits s (8 * (at / 8)) n z) around (f ∙ ap (λ (z : ℕ). ins z b w v) (e ∙ four))
      ∙ put_within s (8 * (at / 8)) r w b v
      ∙ ap (λ (k : ℕ). put_bits s k w v) place
