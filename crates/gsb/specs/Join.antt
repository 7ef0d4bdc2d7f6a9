-- 02, L8: "The joining is to be a library operation, written to the result's first bytes, R4 its length."
use Rattle.std.specs.Prelude.{ℕ, ◌+◌, ◌-◌, ◌≤◌, ◌≡◌, Bool, false, List, [], ◌∷◌, ◌++◌, ltb, length, Ok}
use Rattle.octets.specs.Bytes.{bytes_at, put, digits}
use Rattle.answer.specs.declared.Answer.{Answer}
use Rattle.answer.specs.declared.RunBuffer.TheVariants.{Output}
use Rattle.answer.specs.declared.Fault.{Fault}
use Rattle.answer.specs.declared.Fault.TheVariants.{None, Length, Short}
use Rattle.answer.specs.Refusals.{first_of}
use Rattle.gsb.specs.Walk.{count_of, offset_at, bad_length, walk, is_stopped, fault_of, Walked}
use Rattle.gsb.specs.Lookup.{framed}

-- where the counted elements end
abbrev pub end_of : List ℕ → ℕ
end_of b = offset_at b (count_of b)

-- their bytes. 01, "The guest state buffer": "Bytes after the last counted element are ignored"
unfoldable pub counted : List ℕ → List ℕ
counted b = bytes_at b 4 (end_of b - 4)

-- "the joined elements": the sum of the counts, the counted elements of the first, then those of the second
unfoldable pub joined : List ℕ → List ℕ → List ℕ
joined a b = digits 4 (count_of a + count_of b) ++ (counted a ++ counted b)

-- "a cut element": as the lookup's, IDs and listed sizes are not tested
abbrev pub cut_of : List ℕ → Walked
cut_of b = walk (framed b) (count_of b) 0 4

-- what the operation leaves: its answer, and the lent result
pub record Joining : Type 0 where
  pub answer : Answer
  pub result : List ℕ

-- 01, "Answers": "A refusal changes no byte"
abbrev pub unjoined : List ℕ → Fault → Joining
unjoined r f = record { answer = record { fault = f; value = 0 }; result = r }

-- "Refusals: 5 for either buffer, 7 for a cut element of the first, then the second, with its index and offset; 5 for a joined length over
-- 65,536; 12 with R4 1 if the lent result is too short."
abbrev pub join_tests : List ℕ → List ℕ → List ℕ → List (Bool × Fault)
join_tests a b r =
    (bad_length a, Length)
    ∷ (bad_length b, Length)
    ∷ (is_stopped (cut_of a), fault_of (cut_of a))
    ∷ (is_stopped (cut_of b), fault_of (cut_of b))
    ∷ (ltb 65536 (length (joined a b)), Length)
    ∷ (ltb (length r) (length (joined a b)), Short Output)
    ∷ []

unfoldable pub join_into : List ℕ → List ℕ → List ℕ → Joining
join_into a b r =
    first_of (unjoined r) (join_tests a b r)
    (record { answer = record { fault = None; value = length (joined a b) }; result = put r 0 (joined a b) })

-- ---- words of what is promised of it
-- neither 5 nor 7
pub record Joinable (b : List ℕ) : Type 0 where
  pub sized : bad_length b ≡ false
  pub uncut : cut_of b ≡ Ok tt

-- what is accepted: no buffer is refused, the joined one is no longer than 65,536 bytes, and the lent result holds it
pub record CanJoin (a b r : List ℕ) : Type 0 where
  pub first : Joinable a
  pub second : Joinable b
  pub short : length (joined a b) ≤ 65536
  pub room : length (joined a b) ≤ length r
