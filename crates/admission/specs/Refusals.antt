-- 01, "Answers": what a call leaves, and the tests that most calls begin with, each with its fault.
use Rattle.std.specs.Prelude.{ℕ, ◌/◌, ◌^◌, ◌≡◌, Bool, false, not, List, [], ◌∷◌, eqb, Result, Ok, Err}
use Rattle.std.specs.Int.Count.{count_leading_zeros}
use Rattle.answer.specs.declared.Fault.{Fault}
use Rattle.answer.specs.declared.Fault.TheVariants.{None, Store, Flag, Guest}
use Rattle.answer.specs.declared.Answer.{Answer}
use Rattle.answer.specs.Refusals.{first_of}
use Rattle.store.specs.declared.Layout.{Layout}
use Rattle.store.specs.Header.{header, outside, live}
use Rattle.store.specs.Store.{well_formed}

-- What a call leaves: its answer, the store, and the buffer that it writes (none: no byte).
pub record Outcome : Type 0 where
  pub answer : Answer
  pub store : List ℕ
  pub buffer : List ℕ

-- "success", and what R4 tells; of a refusal the fault says R4
abbrev pub success : ℕ → Answer
success v = record { fault = None; value = v }

abbrev pub refusal : Fault → Answer
refusal f = record { fault = f; value = 0 }

-- an accepted call that writes no buffer
abbrev pub accept : ℕ → List ℕ → Outcome
accept v s = record { answer = success v; store = s; buffer = [] }

-- "A refusal changes no byte of the store, the cache or any buffer."
abbrev pub refuse : List ℕ → List ℕ → Fault → Outcome
refuse s b f = record { answer = refusal f; store = s; buffer = b }

-- "When several apply": the first test that holds refuses the call, whose store is s and whose lent buffer is b; else the outcome is o.
unfoldable pub decide : List ℕ → List ℕ → List (Bool × Fault) → Outcome → Outcome
decide s b tests o = first_of (refuse s b) tests o

-- Demand 2: "Past the earlier checks": none of the tests holds
abbrev pub Passed : List (Bool × Fault) → Type 0
Passed [] = Unit {0}
Passed (x ∷ xs) = (x.0 ≡ false) × Passed xs

-- 1: "store not well formed"
abbrev pub malformed : Layout → List ℕ → Bool × Fault
malformed l s = (not (well_formed l s), Store)

-- 2: "unsupported flag bit set", with the lowest-numbered such bit. "bit 0 is the most significant of 64": so many zeros stand before it.
abbrev pub unsupported : ℕ → ℕ → Bool × Fault
unsupported supported flags = (not (eqb (outside supported flags) 0), Flag (count_leading_zeros 64 (outside supported flags)))

-- 3: "guest not live"
abbrev pub not_live : Layout → List ℕ → ℕ → Bool × Fault
not_live l s g = (not (live l (header l s) g), Guest)

-- the answer of a function that only tests
abbrev pub Admission : Type 0
Admission = Result (Unit {0}) Fault

abbrev pub judgement : List (Bool × Fault) → Admission
judgement tests = first_of Err tests (Ok tt)

-- 1 and 2, which every call with flags begins with
unfoldable pub admission : Layout → List ℕ → ℕ → ℕ → Admission
admission l s supported flags = judgement (malformed l s ∷ unsupported supported flags ∷ [])

-- "bit 0 is the most significant of 64": the number that it is, and whether a word of 64 bits has it
abbrev pub bit0 : ℕ
bit0 = 2 ^ 63

abbrev pub has_bit0 : ℕ → Bool
has_bit0 flags = eqb (flags / bit0) 1

-- 02, L1: "Get state with flag bit 1 takes it, set state with bit 1 gives it back." "Both bits together are answer 2 with R4 1", and bit 1 with any
-- other bit is 2 as well, so that a call hands over where bit 1 is all that is set.
abbrev pub bit1 : ℕ
bit1 = 2 ^ 62

abbrev pub hands_over : ℕ → Bool
hands_over flags = eqb flags bit1
