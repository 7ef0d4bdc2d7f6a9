-- Text as the list of its ASCII codes.
use Rattle.std.specs.Prelude.{ℕ, zero, suc, ◌+◌, ◌/◌, ◌%◌, ◌≡◌, cond, List, [], ◌∷◌, ◌++◌, ltb, length}
use Prim.Native.Char.{code}
use Prim.Native.String.{String, len, char_at}
use Rattle.octets.specs.Bytes.{put}

-- the codes of the n characters from i on
abbrev pub codes : ℕ → ℕ → String → List ℕ
codes zero i s = []
codes (suc n) i s = code (char_at s i) ∷ codes n (i + 1) s

abbrev pub ascii : String → List ℕ
ascii s = codes (len s) 0 s

-- a digit: 0 to 9, then A to F
abbrev pub digit : ℕ → ℕ
digit d = cond (ltb d 10) (48 + d) (55 + d)

-- a number in decimal with no zero in front, of at most `most` digits
unfoldable pub shown : ℕ → ℕ → List ℕ
shown zero n = []
shown (suc most) n = cond (ltb n 10) (digit n ∷ []) (shown most (n / 10) ++ (digit (n % 10) ∷ []))

-- a 64-bit number has at most 20 digits
abbrev pub decimal : ℕ → List ℕ
decimal n = shown 20 n

-- four hexadecimal digits
abbrev pub hex4 : ℕ → List ℕ
hex4 n = digit (n / 4096 % 16) ∷ digit (n / 256 % 16) ∷ digit (n / 16 % 16) ∷ digit (n % 16) ∷ []

-- `l` was written into `was` from `at` on: the bytes are then `is`, and `end` is the place after
pub record Printed (was : List ℕ) (at : ℕ) (l is : List ℕ) (end : ℕ) : Type 0 where
  pub place : end ≡ at + length l
  pub bytes : is ≡ put was at l
