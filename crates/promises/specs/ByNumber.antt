-- 02, L9: "The library's answer after any record is that of the same calls": a call by its number is that call.
use Rattle.std.specs.Prelude.{ℕ, ◌<◌, ◌≡◌, ◌⊎◌, List}
use Rattle.answer.specs.declared.Registers.{Registers}
use Rattle.answer.specs.Answer.{three, told}
use Rattle.store.specs.declared.Layout.{Layout}
use Rattle.l0.specs.Calls.{Call, GetCapabilities, SetCapabilities, CreateGuest, CreateVcpu, GetState, SetState, RunVcpu, DeleteGuest, outcome}
use Rattle.l0.specs.Numbered.{CallRecord, kind_name, called}
use Rattle.promises.specs.History.{registers}

-- what a caller sees of a call by its number: R3, R4 and R5, the store, and the two pieces that are lent to be written
pub record Numbered : Type 0 where
  pub registers : Registers
  pub store : List ℕ
  pub «data» : List ℕ
  pub output : List ℕ

unfoldable pub numbered : Layout → List ℕ → CallRecord → List ℕ → Numbered
numbered l s r u = record {
  registers = told (kind_name r.kind) (called l s r u).answer.fault (called l s r u).answer.value;
  store = (called l s r u).store;
  «data» = (called l s r u).«data»;
  output = (called l s r u).output;
}

-- what the call c itself shows and leaves on the store s, with the pieces d and u
abbrev pub itself : Layout → List ℕ → Call → List ℕ → List ℕ → Numbered
itself l s c d u = record { registers = registers l s c; store = (outcome l s c).store; «data» = d; output = u }

-- "another kind" than "1 to 8"
abbrev pub AnotherKind : ℕ → Type 0
AnotherKind k = (k ≡ 0) ⊎ (8 < k)

-- "1 to 8 in the order of 01's list of calls": the calls that write no buffer leave both pieces, get state writes the data and run the output. "19
-- with the byte offset" of a call alone, which is 0, for "another kind", which changes nothing.
pub record ByNumber (l : Layout) (s : List ℕ) (r : CallRecord) (u : List ℕ) : Type 0 where
  pub get_capabilities_lem : r.kind ≡ 1 → numbered l s r u ≡ itself l s (GetCapabilities r.flags) r.«data» u
  pub set_capabilities_lem : r.kind ≡ 2 → numbered l s r u ≡ itself l s (SetCapabilities r.flags r.number) r.«data» u
  pub create_guest_lem : r.kind ≡ 3 → numbered l s r u ≡ itself l s (CreateGuest r.flags r.number) r.«data» u
  pub create_vcpu_lem : r.kind ≡ 4 → numbered l s r u ≡ itself l s (CreateVcpu r.flags r.guest r.number) r.«data» u
  pub get_state_lem : let c : Call = GetState r.flags r.guest r.number r.«data» in r.kind ≡ 5 → numbered l s r u ≡ itself l s c (outcome l s c).buffer u
  pub set_state_lem : r.kind ≡ 6 → numbered l s r u ≡ itself l s (SetState r.flags r.guest r.number r.«data») r.«data» u
  pub run_vcpu_lem : let c : Call = RunVcpu r.flags r.guest r.number r.«data» u r.effect r.exit in r.kind ≡ 7 → numbered l s r u ≡ itself l s c r.«data» (outcome l s c).buffer
  pub delete_guest_lem : r.kind ≡ 8 → numbered l s r u ≡ itself l s (DeleteGuest r.flags r.guest) r.«data» u
  pub another : AnotherKind r.kind → numbered l s r u ≡ record { registers = three 19 0 0; store = s; «data» = r.«data»; output = u }
