-- Words of the promises that no definition of a call needs.
use Rattle.std.specs.Prelude.{ℕ, ◌≤◌, ◌<◌, ◌≡◌, ◌≢◌, Bool, true, false, not, List, [], ◌∷◌, ◌++◌, length}
use Rattle.answer.specs.declared.Answer.{Answer}
use Rattle.answer.specs.declared.Call.{Call as Name}
use Rattle.answer.specs.declared.Fault.{Fault}
use Rattle.answer.specs.declared.Fault.TheVariants.{Length, Taken}
use Rattle.answer.specs.declared.Registers.{Registers}
use Rattle.answer.specs.Answer.{told, accepted}
use Rattle.rules.specs.declared.Usage.TheVariants.{RunInput, Effect}
use Rattle.gsb.specs.Walk.{judged}
use Rattle.gsb.specs.First.{AllGood}
use Rattle.gsb.specs.Lookup.{lookup_answer, looked_up}
use Rattle.store.specs.declared.Layout.{Layout}
use Rattle.store.specs.Header.{header, live, word}
use Rattle.admission.specs.Refusals.{Outcome}
use Rattle.admission.specs.Target.{is_away, vcpu_tests, base_of}
use Rattle.state.specs.HandOver.{out_of_range}
use Rattle.state.specs.State.{context_of}
use Rattle.run.specs.Run.{run_target_tests, input_of}
use Rattle.l0.specs.Calls.{Call, GetCapabilities, SetCapabilities, CreateGuest, CreateVcpu, GetState, SetState, RunVcpu, DeleteGuest, GuestClock}

-- 01, "The L1 cache": "Accepted: R3 is 0." What the call c tells of its answer is no acceptance
abbrev pub NotAccepted : Name → Answer → Type 0
NotAccepted c a = accepted (told c a.fault a.value) ≡ false

-- Demand 1: "A refused call leaves all lent memory as it found it." Of the call c on the store s, lent the buffer b to write
pub record Unchanged (c : Name) (s b : List ℕ) (o : Outcome) : Type 0 where
  pub store : NotAccepted c o.answer → o.store ≡ s
  pub buffer : NotAccepted c o.answer → o.buffer ≡ b

-- the buffer that a call is lent to write
abbrev pub lent : Call → List ℕ
lent (GetCapabilities flags) = []
lent (SetCapabilities flags bitmap) = []
lent (CreateGuest flags token) = []
lent (CreateVcpu flags guest vcpu) = []
lent (GetState flags guest vcpu buffer) = buffer
lent (SetState flags guest vcpu buffer) = []
lent (RunVcpu flags guest vcpu input output effect exit) = output
lent (DeleteGuest flags guest) = []
lent (GuestClock guest timebase) = []

-- 01, "The store": "Create takes the lowest free id or slot". Id g is free, and every lower one is in use
pub record LowestGuest (l : Layout) (s : List ℕ) (g : ℕ) : Type 0 where
  pub from : 1 ≤ g
  pub upto : g ≤ l.guests
  pub free : live l (header l s) g ≡ false
  pub used : (k : ℕ) → 1 ≤ k → k < g → live l (header l s) k ≡ true

-- slot j is free, and every lower one is in use
pub record LowestSlot (l : Layout) (s : List ℕ) (j : ℕ) : Type 0 where
  pub upto : j < l.slots
  pub free : word l (header l s) j ≡ 0
  pub used : (k : ℕ) → k < j → word l (header l s) k ≢ 0

-- ---- a run
-- 01, "Answers": "run 1, 2, 3, 4, 11, 12, the input's elements, 13, 14", and 02, L1's 16 behind 4: the tests before the elements
abbrev pub before_input : Layout → List ℕ → ℕ → ℕ → ℕ → List ℕ → List ℕ → List (Bool × Fault)
before_input l s flags guest vcpu input output = run_target_tests l s flags guest vcpu 0 (length input) (length output)

-- 01, "Run": "The input is the first bytes of the lent one, as many as registered."
abbrev pub input_given : Layout → List ℕ → ℕ → ℕ → List ℕ → List ℕ
input_given l s guest vcpu input = input_of s (base_of l s false guest vcpu) input

-- Demand 2: "exactly if it holds a bad one": the input holds none; nor does the effect
abbrev pub InputGood : Layout → List ℕ → ℕ → ℕ → List ℕ → Type 0
InputGood l s guest vcpu input = AllGood (judged (context_of l s guest RunInput) (input_given l s guest vcpu input)) (input_given l s guest vcpu input)

abbrev pub EffectGood : Layout → List ℕ → ℕ → List ℕ → Type 0
EffectGood l s guest effect = AllGood (judged (context_of l s guest Effect) effect) effect

-- ---- 02, L1: "17 after 5": the tests of giving back before it
abbrev pub before_form : Layout → List ℕ → ℕ → ℕ → List ℕ → List (Bool × Fault)
before_form l s guest vcpu b = vcpu_tests l s guest vcpu ++ ((not (is_away l s guest vcpu), Taken) ∷ (out_of_range 24 b, Length) ∷ [])

-- ---- 01, "Answers": "Each answer is R3, R4, R5": those of a lookup
unfoldable pub lookup_told : List ℕ → ℕ → Registers
lookup_told b id = told Name.Lookup (lookup_answer (looked_up b id)).fault (lookup_answer (looked_up b id)).value
