-- 02, L10: "Judge a vendor's output buffer. A vendor's L0 may put elements in its own order and add NOPs." An element is its ID and its value.
use Rattle.std.specs.Prelude.{ℕ, zero, suc, ◌+◌, Bool, true, false, not, ◌&&◌, ◌||◌, cond, List, [], ◌∷◌, ◌++◌, eqb, ltb, length, Ok, Err}
use Rattle.answer.specs.declared.Answer.{Answer}
use Rattle.answer.specs.declared.Bad.TheVariants.{Id, Size, Value}
use Rattle.answer.specs.declared.Call.TheVariants.{JudgeOutput}
use Rattle.answer.specs.declared.Registers.{Registers}
use Rattle.answer.specs.Answer.{told}
use Rattle.answer.specs.declared.Fault.{Fault}
use Rattle.answer.specs.declared.Fault.TheVariants.{None, Length, Element, Exit, Taken, Missing}
use Rattle.answer.specs.Refusals.{first_of}
use Rattle.gsb.specs.Walk.{count_of, id_at, size_at, next_at, offset_at, bad_length, walk, Verdict, Walked}
use Rattle.gsb.specs.Message.{elements_in}
use Rattle.store.specs.declared.Layout.{Layout}
use Rattle.transfer.specs.Transfer.{value_at}
use Rattle.exits.specs.Exits.{known, returned, valued}
use Rattle.admission.specs.Refusals.{refusal}
use Rattle.admission.specs.Target.{is_away, vcpu_tests, base_of}

-- "Given our vCPU's state after a run, the exit reason": the elements "of that exit", each with "our value"
abbrev pub ours_of : Layout → List ℕ → ℕ → ℕ → ℕ → List (ℕ × List ℕ)
ours_of l s guest vcpu exit = valued (base_of l s false guest vcpu) s (returned exit)

-- whether an ID is among them, and the value that it has there
unfoldable pub is_ours : List (ℕ × List ℕ) → ℕ → Bool
is_ours [] id = false
is_ours (e ∷ es) id = eqb e.0 id || is_ours es id

unfoldable pub our_value : List (ℕ × List ℕ) → ℕ → List ℕ
our_value [] id = []
our_value (e ∷ es) id = cond (eqb e.0 id) e.1 (our_value es id)

-- the counted elements of a buffer, and how often an ID is among elements
abbrev pub elements_of : List ℕ → List (ℕ × List ℕ)
elements_of b = elements_in b (count_of b)

unfoldable pub times : ℕ → List (ℕ × List ℕ) → ℕ
times id [] = 0
times id (e ∷ es) = cond (eqb e.0 id) 1 0 + times id es

-- whether two values are the same bytes
unfoldable pub same : List ℕ → List ℕ → Bool
same [] [] = true
same [] (y ∷ ys) = false
same (x ∷ xs) [] = false
same (x ∷ xs) (y ∷ ys) = eqb x y && same xs ys

-- "repeated": of the first n elements one starts before the one at `at` and has its ID
unfoldable pub is_repeated : List ℕ → ℕ → ℕ → Bool
is_repeated b at zero = false
is_repeated b at (suc n) = (ltb (offset_at b n) at && eqb (id_at b (offset_at b n)) (id_at b at)) || is_repeated b at n

-- "6 (unlisted, not of this exit, repeated), 7 (wrong size or cut), 8 (wrong value), in 01's order for one element": a header that does not fit,
-- the ID, the size, the value's end, the value. 01: "ID 0x0000 is the NOP: .. any size, its bytes neither read nor written." 02, L7: "L10 uses the
-- guest's list": both lists have every element of every exit (`ExitsListed`), so that an ID that is unlisted by either is not of this exit.
unfoldable pub compared : List (ℕ × List ℕ) → List ℕ → ℕ → Verdict
compared ours b at =
    first_of Err
    ((ltb (length b) (at + 4), Size)
    ∷ (not (eqb (id_at b at) 0) && not (is_ours ours (id_at b at) && not (is_repeated b at (count_of b))), Id)
    ∷ (not (eqb (id_at b at) 0) && not (eqb (size_at b at) (length (our_value ours (id_at b at)))), Size)
    ∷ (ltb (length b) (next_at b at), Size)
    ∷ (not (eqb (id_at b at) 0) && not (same (value_at b at) (our_value ours (id_at b at))), Value)
    ∷ [])
    (Ok (next_at b at))

-- "at the first bad element": 01's walk
abbrev pub comparison : List (ℕ × List ℕ) → List ℕ → Walked
comparison ours b = walk (compared ours b) (count_of b) 0 4

-- "20 with R4 the smallest missing ID": the first of ours that is not there, since the IDs of an exit ascend
unfoldable pub lacking : List (ℕ × List ℕ) → List (ℕ × List ℕ) → Fault
lacking [] es = None
lacking (e ∷ ours) es = cond (eqb (times e.0 es) 0) (Missing e.0) (lacking ours es)

-- what the walk stopped at; where it did not, what is missing
unfoldable pub found : Walked → Fault → Fault
found (Ok _) lack = lack
found (Err stop) lack = Element stop.bad stop.place

-- "Refusals: 1, 3, 4, 16, 5, 13"
abbrev pub earlier_tests : Layout → List ℕ → ℕ → ℕ → ℕ → List ℕ → List (Bool × Fault)
earlier_tests l s guest vcpu exit b = vcpu_tests l s guest vcpu ++ ((is_away l s guest vcpu, Taken) ∷ (bad_length b, Length) ∷ (not (known exit), Exit) ∷ [])

-- "then, with index and offset, at the first bad element 6 .., 7 .., 8 ..; 20": with none of them the answer is success. Nothing is written.
unfoldable pub judge_output : Layout → List ℕ → ℕ → ℕ → ℕ → List ℕ → Answer
judge_output l s guest vcpu exit b =
    first_of refusal (earlier_tests l s guest vcpu exit b)
    (refusal (found (comparison (ours_of l s guest vcpu exit) b) (lacking (ours_of l s guest vcpu exit) (elements_of b))))

-- its R3, R4 and R5
abbrev pub judge_told : Layout → List ℕ → ℕ → ℕ → ℕ → List ℕ → Registers
judge_told l s guest vcpu exit b = told JudgeOutput (judge_output l s guest vcpu exit b).fault (judge_output l s guest vcpu exit b).value
