-- 01, "The guest state buffer": four bytes of count, then elements: 2 bytes ID, 2 bytes size, value.
use Rattle.std.specs.Prelude.{ℕ, zero, suc, ◌+◌, Bool, true, false, not, ◌||◌, List, [], ◌∷◌, ltb, length, Result, Ok, Err}
use Rattle.octets.specs.Bytes.{be}
use Rattle.answer.specs.declared.Bad.{Bad}
use Rattle.answer.specs.declared.Bad.TheVariants.{Id, Size, Value}
use Rattle.answer.specs.declared.Place.{Place}
use Rattle.answer.specs.declared.Fault.{Fault}
use Rattle.answer.specs.declared.Fault.TheVariants.{None, Element}
use Rattle.answer.specs.Refusals.{first_of}
use Rattle.rules.specs.declared.Context.{Context}
use Rattle.elements.specs.Table.{kind_of}
use Rattle.rules.specs.Rules.{permits, size_fits, good_value}
use Rattle.gsb.specs.declared.BadElement.{BadElement}

abbrev pub count_of : List ℕ → ℕ
count_of b = be b 0 4

abbrev pub id_at : List ℕ → ℕ → ℕ
id_at b at = be b at 2

abbrev pub size_at : List ℕ → ℕ → ℕ
size_at b at = be b (at + 2) 2

-- where the element after the one at `at` starts
abbrev pub next_at : List ℕ → ℕ → ℕ
next_at b at = at + 4 + size_at b at

-- where element i starts
unfoldable pub offset_at : List ℕ → ℕ → ℕ
offset_at b zero = 4
offset_at b (suc i) = next_at b (offset_at b i)

-- 01, "Answers", 5: "buffer under 4 or over 65,536 bytes"
abbrev pub bad_length : List ℕ → Bool
bad_length b = ltb (length b) 4 || ltb 65536 (length b)

-- an element, judged: where the next one starts, or what is wrong with it
abbrev pub Verdict : Type 0
Verdict = Result ℕ Bad

-- "For each element in turn: a header that does not fit is 7; then the ID, 6 if unlisted, of the wrong scope, or not permitted in
-- the call; then the size, 7 if not the listed one; then 7 if the value runs past the end; then, when setting, the value rule, 8."
unfoldable pub judged : Context → List ℕ → ℕ → Verdict
judged k b at =
    first_of Err
    ((ltb (length b) (at + 4), Size)
    ∷ (not (permits k (id_at b at) (kind_of (id_at b at))), Id)
    ∷ (not (size_fits (kind_of (id_at b at)) (size_at b at)), Size)
    ∷ (ltb (length b) (next_at b at), Size)
    ∷ (not (good_value k (id_at b at) b (at + 4)), Value)
    ∷ [])
    (Ok (next_at b at))

-- all counted elements: good, or stopped at the first that is not
abbrev pub Walked : Type 0
Walked = Result (Unit {0}) BadElement

abbrev pub stopped_at : Bad → Place → Walked
stopped_at bad place = Err (record { bad = bad; place = place })

-- the element at `at` was judged; `go` is the walk over those after it
unfoldable pub walk_on : Verdict → ℕ → ℕ → (ℕ → Walked) → Walked
walk_on (Ok next) index at go = go next
walk_on (Err bad) index at go = stopped_at bad (record { index = index; offset = at })

-- "The walk takes the next element or stops, and leaves at the first bad one": n elements, the first of them at `at`
unfoldable pub walk : (ℕ → Verdict) → ℕ → ℕ → ℕ → Walked
walk judge zero index at = Ok tt
walk judge (suc n) index at = walk_on (judge at) index at (λ next. walk judge n (index + 1) next)

-- all that are counted
unfoldable pub first_bad : Context → List ℕ → Walked
first_bad k b = walk (judged k b) (count_of b) 0 4

-- 01, "Answers", 6, 7 and 8 with the place: whether a walk refuses the call, and the fault that it tells
abbrev pub is_stopped : Walked → Bool
is_stopped (Ok _) = false
is_stopped (Err stop) = true

abbrev pub fault_of : Walked → Fault
fault_of (Ok _) = None
fault_of (Err stop) = Element stop.bad stop.place
