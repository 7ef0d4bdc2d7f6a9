-- What std's conversions of numbers and bytes make, in words of this crate. Assumes nothing.
use mathlib.Core.Path.{◌≡◌, refl, sym, ap, ap₂, ◌∙◌}
use mathlib.Core.List.{List, [], ◌∷◌, ◌++◌}
use Prim.Native.Nat.{ℕ, zero, suc, ◌+◌, ◌*◌, ◌/◌, ◌%◌, ◌^◌, ◌<◌}
use native.Mathlib.Nat.{pow-suc, div-div-eq-div-mul}
use native.Mathlib.Omega.{arith}
use mir.Syntax.{w8}
use mir.Val.{Fits}
use lib.ListN.{get_or}
use Rattle.std.specs.Int.{w16, w32, w64, byte_at, bytes_high_first, from_be_bytes, from_le_bytes, swap_bytes, rotate_left}
use Rattle.std.specs.Int.Bits.{bit_or}
use Rattle.std.proofs.lemmas.Nat.{or_shifted}
use Rattle.octets.specs.Bytes.{bytes_at, put, be, digits}
use Rattle.octets.specs.Private.{swap2}
use Rattle.octets.proofs.Bytes.{get_or_bytes_at}
use Rattle.octets.proofs.Numbers.{be_add, be_lt}

-- ---- a number read

module _ (s : List ℕ) (i : ℕ) where
  byte : (n k : ℕ) → k < n → get_or (bytes_at s i n) k 0 ≡ get_or s (i + k) 0
  byte n k h = get_or_bytes_at s i n k h

  pub read2 : (r : ℕ) → r ≡ from_be_bytes w16 (bytes_at s i 2) → r ≡ be s i 2
  unfolding be
  read2 r e = omega (arith, byte 2 0 (omega arith), byte 2 1 (omega arith))

  pub read4 : (r : ℕ) → r ≡ from_be_bytes w32 (bytes_at s i 4) → r ≡ be s i 4
  unfolding be
  read4 r e = omega (arith, byte 4 0 (omega arith), byte 4 1 (omega arith), byte 4 2 (omega arith), byte 4 3 (omega arith))

  pub read8 : (r : ℕ) → r ≡ from_be_bytes w64 (bytes_at s i 8) → r ≡ be s i 8
  unfolding be
  read8 r e =
      omega (
        arith,
        byte 8 0 (omega arith),
        byte 8 1 (omega arith),
        byte 8 2 (omega arith),
        byte 8 3 (omega arith),
        byte 8 4 (omega arith),
        byte 8 5 (omega arith),
        byte 8 6 (omega arith),
        byte 8 7 (omega arith),
      )

  -- read as the machine does
  pub read_pair : (r : ℕ) → ((k : ℕ) → Fits w8 (get_or s k 0)) → r ≡ from_le_bytes w16 (bytes_at s i 2) → r ≡ swap2 (be s i 2)
  unfolding be swap2
  read_pair r b e = omega (arith, byte 2 0 (omega arith), byte 2 1 (omega arith), (b (i + 0)).fits, (b (i + 1)).fits)

  pub pair_lt : ((k : ℕ) → Fits w8 (get_or s k 0)) → be s i 2 < 2 ^ 16
  pair_lt b = be_lt s i 2 (λ k h. (b (i + k)).fits)

  -- the halves of a number of 4 bytes change places
  pub turned : (w r : ℕ) → ((k : ℕ) → Fits w8 (get_or s k 0)) → w ≡ be s i 4 → r ≡ rotate_left w32 w 16 → r ≡ be s (i + 2) 2 * 2 ^ 16 + be s i 2
  turned w r b e q =
      let p : w ≡ be s i 2 * 65536 + be s (i + 2) 2 = e ∙ be_add s i 2 2 in
      let h : be s (i + 2) 2 < 65536 = be_lt s (i + 2) 2 (λ k l. (b (i + 2 + k)).fits) in
      let k : be s i 2 < 2 ^ 16 = pair_lt b in
      let high : w * 2 ^ 16 % 2 ^ 32 ≡ be s (i + 2) 2 * 2 ^ 16 = omega arith in
      let low : w / 2 ^ 16 ≡ be s i 2 = omega arith in
      q ∙ ap₂ (λ (x y : ℕ). bit_or x y) high low ∙ or_shifted (be s (i + 2) 2) 16 (be s i 2) k

-- ---- a number written

next_byte : (k v : ℕ) → byte_at k (v / 256) ≡ byte_at (suc k) v
next_byte zero v = refl
next_byte (suc k) v =
    ap (λ (x : ℕ). x % 256) (div-div-eq-div-mul v 256 (256 ^ suc k) ∙ ap (λ (x : ℕ). v / x) (omega (arith, pow-suc 256 (suc k))))

last_byte : (n v : ℕ) → bytes_high_first (suc n) v ≡ bytes_high_first n (v / 256) ++ (v % 256 ∷ [])
last_byte zero v = refl
last_byte (suc n) v = ap₂ (λ (x : ℕ) (l : List ℕ). x ∷ l) (sym (next_byte n v)) (last_byte n v)

digits_high : (n v : ℕ) → bytes_high_first n v ≡ digits n v
unfolding digits
digits_high zero v = refl
digits_high (suc n) v = last_byte n v ∙ ap (λ (l : List ℕ). l ++ (v % 256 ∷ [])) (digits_high n (v / 256))

-- n stands first, for a caller to name
pub written : (n : ℕ) (s : List ℕ) (i v : ℕ) (b t : List ℕ) → b ≡ bytes_high_first n v → t ≡ put s i b → t ≡ put s i (digits n v)
written n s i v b t p q = q ∙ ap (put s i) (p ∙ digits_high n v)

-- ---- a number swapped

pub swapped2 : (v r : ℕ) → v < 2 ^ 16 → r ≡ swap_bytes w16 v → r ≡ swap2 v
unfolding swap2
swapped2 v r h e = omega arith
