-- THEOREM `by_number`: a call by its number is that call: R3, R4 and R5, the store and both lent pieces; another kind is 19 and changes nothing.
-- Assumes nothing.
use mathlib.Core.Path.{◌≡◌, ap}
use mathlib.Core.Logic.{inl, inr}
use mathlib.Core.List.{List}
use mathlib.Core.Option.{Option, none}
use Prim.Native.Nat.{ℕ}
use lib.ListN.{get_or-eq_default}
use Rattle.answer.specs.declared.Call.{Call as Name}
use Rattle.answer.specs.Answer.{three, told}
use Rattle.store.specs.declared.Layout.{Layout}
use Rattle.l0.specs.Calls.{Call, outcome}
use Rattle.l0.specs.Numbered.{CallRecord, Called, kind_name, by_kind, call_of, called_by, called}
use Rattle.promises.specs.History.{registers}
use Rattle.promises.specs.ByNumber.{Numbered, numbered, AnotherKind, ByNumber}

module _ (l : Layout) (s : List ℕ) (r : CallRecord) (u : List ℕ) where
  abbrev withKind : ℕ → CallRecord
  withKind k = record { kind = k; flags = r.flags; guest = r.guest; number = r.number; exit = r.exit; «data» = r.«data»; effect = r.effect }

  kind_is : (k : ℕ) → r.kind ≡ k → numbered l s r u ≡ numbered l s (withKind k) u
  kind_is k e = ap (λ (n : ℕ). numbered l s (withKind n) u) e

  -- 19 is told alike by every name
  abbrev shows : Name → Called → Numbered
  shows c x = record { registers = told c x.answer.fault x.answer.value; store = x.store; «data» = x.«data»; output = x.output }

  no_call : call_of r u ≡ none → numbered l s r u ≡ record { registers = three 19 0 0; store = s; «data» = r.«data»; output = u }
  unfolding numbered called
  no_call e = ap (λ (o : Option Call). shows (kind_name r.kind) (called_by l s r.«data» u o)) e

  no_kind : AnotherKind r.kind → call_of r u ≡ none
  no_kind (inl e) = ap (λ (k : ℕ). call_of (withKind k) u) e
  no_kind (inr h) = get_or-eq_default (by_kind r u) none h

  pub by_number : ByNumber l s r u
  unfolding numbered called registers outcome
  by_number = record {
    get_capabilities_lem = λ e. kind_is 1 e;
    set_capabilities_lem = λ e. kind_is 2 e;
    create_guest_lem = λ e. kind_is 3 e;
    create_vcpu_lem = λ e. kind_is 4 e;
    get_state_lem = λ e. kind_is 5 e;
    set_state_lem = λ e. kind_is 6 e;
    run_vcpu_lem = λ e. kind_is 7 e;
    delete_guest_lem = λ e. kind_is 8 e;
    another = λ e. no_call (no_kind e);
  }
