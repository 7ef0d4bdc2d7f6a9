-- 01, "Run" and "The L1 cache": "a count and elements", as they are written to the first bytes of a run's output or input.
use Rattle.std.specs.Prelude.{ℕ, zero, suc, ◌+◌, ◌^◌, ◌≤◌, ◌<◌, ◌≡◌, List, [], ◌∷◌, ◌++◌, length, get_or}
use Rattle.octets.specs.Bytes.{bytes_at, digits}
use Rattle.answer.specs.declared.Place.{Place}
use Rattle.gsb.specs.Walk.{id_at, size_at, offset_at}

-- 01, "The guest state buffer": "2 bytes ID, 2 bytes size, value"
unfoldable pub element_bytes : ℕ → List ℕ → List ℕ
element_bytes id v = digits 2 id ++ (digits 2 (length v) ++ v)

-- an element is its ID and its value
unfoldable pub elements_bytes : List (ℕ × List ℕ) → List ℕ
elements_bytes [] = []
elements_bytes (e ∷ es) = element_bytes e.0 e.1 ++ elements_bytes es

-- "Four bytes of count, then elements"
unfoldable pub message : List (ℕ × List ℕ) → List ℕ
message es = digits 4 (length es) ++ elements_bytes es

-- ---- words of what is promised of it: a buffer that begins with a message is read as the elements that it was made of
-- v stands in b from `at` on
pub record Stands (b : List ℕ) (at : ℕ) (v : List ℕ) : Type 0 where
  pub within : at + length v ≤ length b
  pub same : bytes_at b at (length v) ≡ v

-- "to the input's first bytes"
abbrev pub Begins : List ℕ → List ℕ → Type 0
Begins b v = Stands b 0 v

-- element i of a list of them
abbrev pub nth_id : List (ℕ × List ℕ) → ℕ → ℕ
nth_id es i = (get_or es i (0, [])).0

abbrev pub nth_value : List (ℕ × List ℕ) → ℕ → List ℕ
nth_value es i = (get_or es i (0, [])).1

-- "Four bytes of count", "2 bytes ID, 2 bytes size": the number of elements, their IDs and their sizes fit these
pub record Wire (es : List (ℕ × List ℕ)) : Type 0 where
  pub count : length es < 2 ^ 32
  pub ids : (i : ℕ) → i < length es → nth_id es i < 2 ^ 16
  pub sizes : (i : ℕ) → i < length es → length (nth_value es i) < 2 ^ 16

-- the first n elements of a buffer, each its ID and its value
unfoldable pub elements_in : List ℕ → ℕ → List (ℕ × List ℕ)
elements_in b zero = []
elements_in b (suc n) = elements_in b n ++ ((id_at b (offset_at b n), bytes_at b (offset_at b n + 4) (size_at b (offset_at b n))) ∷ [])

-- where the first element lies: index 0, behind the count
abbrev pub first_place : Place
first_place = record { index = 0; offset = 4 }
