-- A store or a buffer is the list of its bytes: a part read, a part written, and the big-endian numbers between.
-- Only the laws of `proofs/` open these.
use Rattle.std.specs.Prelude.{ℕ, zero, suc, ◌+◌, ◌*◌, ◌/◌, ◌%◌, ◌≤◌, List, [], ◌∷◌, ◌++◌, get_or, take, drop, replicate}
use Rattle.std.proofs.lemmas.List.Edits.{sets}

-- the n bytes of s from i on
unfoldable pub bytes_at : List ℕ → ℕ → ℕ → List ℕ
bytes_at s i n = take n (drop i s)

-- s with v written from i on: what would lie past the end is not written, so the length stays
unfoldable pub put : List ℕ → ℕ → List ℕ → List ℕ
put s i v = sets s i v

-- 01, "The guest state buffer", "Big endian": the number that the n bytes of s from i on make
unfoldable pub be : List ℕ → ℕ → ℕ → ℕ
be s i zero = 0
be s i (suc n) = be s i n * 256 + get_or s (i + n) 0

-- the n bytes of the number v, most significant first
unfoldable pub digits : ℕ → ℕ → List ℕ
digits zero v = []
digits (suc n) v = digits n (v / 256) ++ (v % 256 ∷ [])

-- n bytes of zero
unfoldable pub zeros : ℕ → List ℕ
zeros n = replicate n 0

-- Demand 2: "changes only the elements named": what lies beside them. The n bytes from i on and the m bytes from j on have none in common;
-- data, so that the places are found by inference
pub data Clear (i n j m : ℕ) : Type 0 where
  left : i + n ≤ j → Clear i n j m
  right : j + m ≤ i → Clear i n j m
