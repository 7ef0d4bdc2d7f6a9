-- 01, "The guest state buffer": "The lookup names an ID, and gives back the value part, in the caller's own buffer, of the last
-- counted element with it."
use Rattle.std.specs.Prelude.{ℕ, zero, suc, ◌+◌, ◌≤◌, ◌<◌, ◌≡◌, ◌≢◌, cond, List, [], ◌∷◌, ltb, eqb, length, Option, None, Some, Result, Ok, Err}
use Rattle.octets.specs.Bytes.{bytes_at}
use Rattle.answer.specs.declared.Bad.TheVariants.{Id, Size}
use Rattle.answer.specs.declared.Answer.{Answer}
use Rattle.answer.specs.declared.Fault.{Fault}
use Rattle.answer.specs.declared.Fault.TheVariants.{Length, Element}
use Rattle.answer.specs.Refusals.{first_of}
use Rattle.gsb.specs.declared.lookups.Found.{Found}
use Rattle.gsb.specs.Walk.{count_of, id_at, size_at, next_at, offset_at, bad_length, walk, Verdict, Walked}

-- "It answers 5 or 7 as above, only for cut elements": "Listed sizes and scopes are not tested."
unfoldable pub framed : List ℕ → ℕ → Verdict
framed b at = first_of Err ((ltb (length b) (at + 4), Size) ∷ (ltb (length b) (next_at b at), Size) ∷ []) (Ok (next_at b at))

-- of the first n elements the last one with the ID
unfoldable pub last_with : List ℕ → ℕ → ℕ → Option ℕ
last_with b id zero = None
last_with b id (suc n) = cond (eqb (id_at b (offset_at b n)) id) (Some (offset_at b n)) (last_with b id n)

-- the element found, if any, lies inside the buffer: what `part_of`'s code requires
abbrev pub Inside : List ℕ → Option ℕ → Type 0
Inside b None = Unit {0}
Inside b (Some at) = next_at b at ≤ length b

-- "6 with R4 = the count if no counted element has the ID"; the part is the value of the element that starts at `at`.
unfoldable pub part_of : List ℕ → Option ℕ → Result Found Fault
part_of b None = Err (Element Id (record { index = count_of b; offset = 0 }))
part_of b (Some at) = Ok (record { at = at + 4; len = size_at b at })

-- a cut element is told before anything is found
unfoldable pub unless_cut : Walked → Result Found Fault → Result Found Fault
unless_cut (Ok _) found = found
unless_cut (Err stop) found = Err (Element stop.bad stop.place)

unfoldable pub looked_up : List ℕ → ℕ → Result Found Fault
looked_up b id =
    cond (bad_length b) (Err Length)
    (unless_cut (walk (framed b) (count_of b) 0 4) (part_of b (last_with b id (count_of b))))

-- the part itself. "A refusal gives back an empty part."
abbrev pub part_in : List ℕ → Result Found Fault → List ℕ
part_in b (Ok found) = bytes_at b found.at found.len
part_in b (Err fault) = []

abbrev pub value_of : List ℕ → ℕ → List ℕ
value_of b id = part_in b (looked_up b id)

-- "It answers": a part that was found tells no number
abbrev pub lookup_answer : Result Found Fault → Answer
lookup_answer (Ok found) = record { fault = Fault.None; value = 0 }
lookup_answer (Err fault) = record { fault = fault; value = 0 }

-- ---- words of what is promised of it
-- "if no counted element has the ID": one that has it
pub record Counted (b : List ℕ) (id i : ℕ) : Type 0 where
  pub counted : i < count_of b
  pub named : id_at b (offset_at b i) ≡ id

-- "the last counted element with it"
pub record LastAt (b : List ℕ) (id i : ℕ) : Type 0 where
  pub here : Counted b id i
  pub after : (j : ℕ) → i < j → j < count_of b → id_at b (offset_at b j) ≢ id
