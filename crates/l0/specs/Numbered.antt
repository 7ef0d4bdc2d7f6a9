-- 02, L9: a call by its number, as a call record names it.
use Rattle.std.specs.Prelude.{ℕ, List, [], ◌∷◌, get_or, slice_index_or}
use Rattle.std.proofs.Math.Option.{Option, none, some}
use Rattle.answer.specs.declared.Answer.{Answer}
use Rattle.answer.specs.declared.Call.{Call as Name}
use Rattle.answer.specs.declared.Fault.TheVariants.{Record}
use Rattle.store.specs.declared.Layout.{Layout}
use Rattle.admission.specs.Refusals.{Outcome, refuse}
use Rattle.l0.specs.declared.numbered.Kind.{Kind}
use Rattle.l0.specs.Kinds.{number_of}
use Rattle.l0.specs.Calls.{Call, GetCapabilities, SetCapabilities, CreateGuest, CreateVcpu, GetState, SetState, RunVcpu, DeleteGuest, GuestClock, outcome}

-- "kind .., flags (64), guest (64), vCPU, token or bitmap (64), exit reason (12), ..; then the two pieces of data", of which the second is the effect
pub record CallRecord : Type 0 where
  pub kind : ℕ
  pub flags : ℕ
  pub guest : ℕ
  pub number : ℕ
  pub exit : ℕ
  pub «data» : List ℕ
  pub effect : List ℕ

-- "kind (4 bits, 1 to 8 in the order of 01's list of calls)". "In a run the data is the input, and the output is lent as registered." "Create takes
-- its token, and capabilities its bitmap, from the third number." What a call has no use for is ignored.
abbrev pub by_kind : CallRecord → List ℕ → List (Option Call)
by_kind r output =
    none
    ∷ some (GetCapabilities r.flags)
    ∷ some (SetCapabilities r.flags r.number)
    ∷ some (CreateGuest r.flags r.number)
    ∷ some (CreateVcpu r.flags r.guest r.number)
    ∷ some (GetState r.flags r.guest r.number r.«data»)
    ∷ some (SetState r.flags r.guest r.number r.«data»)
    ∷ some (RunVcpu r.flags r.guest r.number r.«data» output r.effect r.exit)
    ∷ some (DeleteGuest r.flags r.guest)
    ∷ []

abbrev pub call_of : CallRecord → List ℕ → Option Call
call_of r output = slice_index_or (by_kind r output) r.kind none

-- the same order: the name by which a kind's R4 and R5 are told. 19 is told alike by every name; of another kind it is that of no call.
abbrev pub kind_name : ℕ → Name
kind_name kind =
    get_or
    (Name.FreshStore
    ∷ Name.GetCapabilities
    ∷ Name.SetCapabilities
    ∷ Name.CreateGuest
    ∷ Name.CreateVcpu
    ∷ Name.GetState
    ∷ Name.SetState
    ∷ Name.RunVcpu
    ∷ Name.DeleteGuest
    ∷ [])
    kind
    Name.FreshStore

-- the name of a kind
abbrev pub name_of : Kind → Name
name_of kind = kind_name (number_of kind)

-- what a call by its number leaves: its answer, the store and the two pieces that are lent to be written
pub record Called : Type 0 where
  pub answer : Answer
  pub store : List ℕ
  pub «data» : List ℕ
  pub output : List ℕ

abbrev pub wrote : Outcome → List ℕ → List ℕ → Called
wrote o d u = record { answer = o.answer; store = o.store; «data» = d; output = u }

-- of the two pieces, d and u, get state writes the data, run the output, and no other call any
abbrev pub left_by : List ℕ → List ℕ → Call → Outcome → Called
left_by d u (GetCapabilities flags) o = wrote o d u
left_by d u (SetCapabilities flags bitmap) o = wrote o d u
left_by d u (CreateGuest flags token) o = wrote o d u
left_by d u (CreateVcpu flags guest vcpu) o = wrote o d u
left_by d u (GetState flags guest vcpu buffer) o = wrote o o.buffer u
left_by d u (SetState flags guest vcpu buffer) o = wrote o d u
left_by d u (RunVcpu flags guest vcpu input output effect exit) o = wrote o d o.buffer
left_by d u (DeleteGuest flags guest) o = wrote o d u
left_by d u (GuestClock guest timebase) o = wrote o d u

-- "19 with the byte offset of the first record that .. has another kind": a call alone is at offset 0, and then changes nothing
abbrev pub called_by : Layout → List ℕ → List ℕ → List ℕ → Option Call → Called
called_by l s d u none = wrote (refuse s [] (Record 0)) d u
called_by l s d u (some c) = left_by d u c (outcome l s c)

unfoldable pub called : Layout → List ℕ → CallRecord → List ℕ → Called
called l s r output = called_by l s r.«data» output (call_of r output)
