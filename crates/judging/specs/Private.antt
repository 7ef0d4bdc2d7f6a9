-- Names that only the contracts of private functions use.
use Rattle.std.specs.Prelude.{ℕ, ◌+◌, ◌*◌, ◌/◌, ◌%◌, ◌≤◌, ◌<◌, ◌≡◌, Bool, true, not, ◌&&◌, cond, List, [], ◌∷◌, eqb, ltb, leb, length, Option, Some, None, Result, Ok, Err}
use Rattle.answer.specs.declared.Fault.{Fault}
use Rattle.answer.specs.declared.Fault.TheVariants.{None as NoFault, Length, Element, Exit, Missing}
use Rattle.gsb.specs.Walk.{count_of, offset_at, bad_length, Verdict}
use Rattle.gsb.specs.Message.{elements_in}
use Rattle.exits.specs.Exits.{known, returned, element_of, valued}
use Rattle.judging.specs.Judging.{elements_of, times, comparison, lacking, found}

-- ---- marks: a bit for each ID that the exit returns, the first one's least significant; set where the ID is among the elements
unfoldable pub marks : List ℕ → List (ℕ × List ℕ) → ℕ
marks [] es = 0
marks (id ∷ ids) es = cond (eqb (times id es) 0) 0 1 + 2 * marks ids es

-- the place of an ID that is new, where from place j on the IDs are ids and the marks are seen: it is one of them, and has no mark
unfoldable pub standing : List ℕ → ℕ → ℕ → ℕ → Option ℕ
standing [] seen id j = None
standing (x ∷ ids) seen id j = cond (eqb x id) (cond (eqb (seen % 2) 1) None (Some j)) (standing ids (seen / 2) id (j + 1))

-- the first ID without a mark
unfoldable pub unmarked : List ℕ → ℕ → Option ℕ
unmarked [] seen = None
unmarked (id ∷ ids) seen = cond (eqb (seen % 2) 1) (unmarked ids (seen / 2)) (Some id)

-- ---- what the table of exits says of the IDs: they fit, ascend and are no NOP, and their values lie in a slot
abbrev pub id_good : ℕ → Bool
id_good id = (ltb 0 id && ltb id 65536) && (leb (element_of id).size 16 && leb ((element_of id).position + (element_of id).size) 1820)

abbrev pub above : ℕ → List ℕ → Bool
above id [] = true
above id (x ∷ xs) = ltb id x && above id xs

abbrev pub row_good : List ℕ → Bool
row_good [] = true
row_good (id ∷ ids) = (id_good id && above id ids) && row_good ids

pub record GoodIds (ids : List ℕ) : Type 0 where
  pub few : length ids ≤ 10
  pub good : row_good ids ≡ true

-- ---- the walk: element i of b, at `at`, with the marks of those before it
pub record Reached (ids b : List ℕ) (i at seen : ℕ) : Type 0 where
  pub counted : i < count_of b
  pub here : at ≡ offset_at b i
  pub inside : at ≤ length b
  pub marked : seen ≡ marks ids (elements_in b i)

-- what a verdict makes of the walk; seen are the marks with the element's own
unfoldable pub stepped : Verdict → ℕ → ℕ → ℕ → Result (ℕ × ℕ) Fault
stepped (Ok next) seen i at = Ok (next, seen)
stepped (Err bad) seen i at = Err (Element bad (record { index = i; offset = at }))

-- what is told of an ID that is missing, and the fault that a judgement ends with, or none
abbrev pub missing_in : Option ℕ → Fault
missing_in None = NoFault
missing_in (Some id) = Missing id

abbrev pub fault_in : Result (Unit {0}) Fault → Fault
fault_in (Ok u) = NoFault
fault_in (Err fault) = fault

-- the elements, then what is missing
unfoldable pub finding : List (ℕ × List ℕ) → List ℕ → Fault
finding ours b = found (comparison ours b) (lacking ours (elements_of b))

-- past the target, whose values start at base: 5, 13, then the elements
unfoldable pub judged_at : ℕ → List ℕ → ℕ → List ℕ → Fault
judged_at base s exit b = cond (bad_length b) Length (cond (not (known exit)) Exit (finding (valued base s (returned exit)) b))
