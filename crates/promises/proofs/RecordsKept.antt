-- THEOREMS `records_unchanged`, `eighteen_unchanged`: demand 1 of the layer of request L5. A refused call leaves the store and both lent pieces, and
-- the records too unless it is one of 6 to 8 that they count; 18 leaves everything. Assumes nothing.
use mathlib.Core.Path.{◌≡◌, refl, sym, ap, ◌∙◌, subst}
use mathlib.Core.Logic.{◌≢◌}
use mathlib.Core.Bool.{Bool, true, false, not, ◌&&◌, cond}
use mathlib.Core.List.{List}
use Prim.Native.Nat.{ℕ, zero, suc}
use native.Mathlib.Decide.{ℕ_discrete}
use lib.Dec.{leb, eqb}
use lib.ListN.{length}
use borrow.Author.Tests.{ne_eqb}
use Rattle.answer.specs.Answer.{told}
use Rattle.store.specs.declared.Layout.{Layout}
use Rattle.admission.specs.Refusals.{has_bit0, hands_over}
use Rattle.admission.specs.Target.{base_of}
use Rattle.run.specs.Run.{input_of}
use Rattle.l0.specs.Calls.{Call, GetCapabilities, SetCapabilities, CreateGuest, CreateVcpu, GetState, SetState, RunVcpu, DeleteGuest, GuestClock, outcome}
use Rattle.l0.specs.Numbered.{CallRecord, called, kind_name}
use Rattle.tally.specs.declared.Summary.{Summary}
use Rattle.tally.specs.declared.Change.{Change}
use Rattle.tally.specs.declared.Change.TheVariants.{Nothing, Renewed, Set, Ran, Refused}
use Rattle.tally.specs.Tally.{all_set, change_by, touches, noted, Tallied, counted, tallied}
use Rattle.promises.specs.History.{name_of}
use Rattle.promises.specs.Promised.{lent}
use Rattle.promises.specs.Tallies.{is_told, LayerUnchanged, Eighteen}
use Rattle.promises.proofs.Kept.{refused_unchanged}
use Rattle.promises.proofs.Sums.{noted_nothing, enough_records, other_records}

-- ---- a refusal that is not counted changes no record
by_six : (c : Change) (b : Bool) → b ≡ false → cond b c Nothing ≡ Nothing
by_six c b e = ap (λ (y : Bool). cond y c Nothing) e

by_bits : (wide bad : Bool) → (not wide && bad) ≡ false → cond wide Nothing (cond bad Refused Nothing) ≡ Nothing
by_bits true bad e = refl
by_bits false bad e = by_six Refused bad e

no_change : (l : Layout) (s : List ℕ) (c : Call) (r3 : ℕ) → r3 ≢ 0 → is_told c r3 ≡ false → change_by l s c r3 ≡ Nothing
no_change l s (GetCapabilities flags) r3 n e = refl
no_change l s (SetCapabilities flags bitmap) r3 n e = refl
no_change l s (CreateGuest flags token) r3 n e = refl
no_change l s (CreateVcpu flags guest vcpu) r3 n e = by_six Renewed (eqb r3 0) (ne_eqb _ _ n)
no_change l s (GetState flags guest vcpu buffer) r3 n e = by_bits (has_bit0 flags) (leb 6 r3 && leb r3 8) e
no_change l s (SetState flags guest vcpu buffer) r3 n e =
    ap (λ (b : Bool). cond (has_bit0 flags) Nothing (cond b (cond (hands_over flags) Nothing (Set (all_set buffer))) (cond (leb 6 r3 && leb r3 8) Refused Nothing))) (ne_eqb _ _ n)
    ∙ by_bits (has_bit0 flags) (leb 6 r3 && leb r3 8) e
no_change l s (RunVcpu flags guest vcpu input output effect exit) r3 n e =
    ap (λ (b : Bool). cond b (Ran (all_set (input_of s (base_of l s false guest vcpu) input)) exit) (cond (leb 6 r3 && leb r3 8) Refused Nothing)) (ne_eqb _ _ n)
    ∙ by_six Refused (leb 6 r3 && leb r3 8) e
no_change l s (DeleteGuest flags guest) r3 n e = by_six Renewed (eqb r3 0) (ne_eqb _ _ n)
no_change l s (GuestClock guest timebase) r3 n e = refl

module _ (l : Layout) (ts : List Summary) (s : List ℕ) where
  abbrev r3By : Call → ℕ
  r3By c = (told (name_of c) (outcome l s c).answer.fault (outcome l s c).answer.value).r3

  kept_store : (c : Call) → r3By c ≢ 0 → (outcome l s c).store ≡ s
  kept_store c n = (refused_unchanged l s c).store (ne_eqb _ _ n)

  kept_buffer : (c : Call) → r3By c ≢ 0 → (outcome l s c).buffer ≡ lent c
  kept_buffer c n = (refused_unchanged l s c).buffer (ne_eqb _ _ n)

  kept_records : (c : Call) → r3By c ≢ 0 → is_told c (r3By c) ≡ false → noted (touches l s c) (change_by l s c (r3By c)) 0 ts ≡ ts
  kept_records c n e = ap (λ (d : Change). noted (touches l s c) d 0 ts) (no_change l s c (r3By c) n e) ∙ noted_nothing (touches l s c) 0 ts

  module _ (flags guest number exit : ℕ) (d effect u : List ℕ) where
    abbrev given : ℕ → CallRecord
    given k = record { kind = k; flags = flags; guest = guest; number = number; exit = exit; «data» = d; effect = effect }

    -- a call that writes neither piece, and the two that write one
    kind_kept : (k : ℕ) → LayerUnchanged ts s (given k) u (counted l ts s (given k) u)
    unfolding called
    kind_kept zero = record { store = λ n. refl; «data» = λ n. refl; output = λ n. refl; records = λ n e. refl }
    kind_kept (suc zero) = let c = GetCapabilities flags in record { store = kept_store c; «data» = λ n. refl; output = λ n. refl; records = kept_records c }
    kind_kept (suc (suc zero)) = let c = SetCapabilities flags number in record { store = kept_store c; «data» = λ n. refl; output = λ n. refl; records = kept_records c }
    kind_kept (suc (suc (suc zero))) = let c = CreateGuest flags number in record { store = kept_store c; «data» = λ n. refl; output = λ n. refl; records = kept_records c }
    kind_kept (suc (suc (suc (suc zero)))) = let c = CreateVcpu flags guest number in record { store = kept_store c; «data» = λ n. refl; output = λ n. refl; records = kept_records c }
    kind_kept (suc (suc (suc (suc (suc zero))))) =
        let c = GetState flags guest number d in record { store = kept_store c; «data» = kept_buffer c; output = λ n. refl; records = kept_records c }
    kind_kept (suc (suc (suc (suc (suc (suc zero)))))) =
        let c = SetState flags guest number d in record { store = kept_store c; «data» = λ n. refl; output = λ n. refl; records = kept_records c }
    kind_kept (suc (suc (suc (suc (suc (suc (suc zero))))))) =
        let c = RunVcpu flags guest number d u effect exit in record { store = kept_store c; «data» = λ n. refl; output = kept_buffer c; records = kept_records c }
    kind_kept (suc (suc (suc (suc (suc (suc (suc (suc zero)))))))) =
        let c = DeleteGuest flags guest in record { store = kept_store c; «data» = λ n. refl; output = λ n. refl; records = kept_records c }
    kind_kept (suc (suc (suc (suc (suc (suc (suc (suc (suc k))))))))) = record { store = λ n. refl; «data» = λ n. refl; output = λ n. refl; records = λ n e. refl }

  pub eighteen_unchanged : (r : CallRecord) (u : List ℕ) → length ts ≢ l.slots → Eighteen ts s r u (tallied l ts s r u)
  eighteen_unchanged r u n =
      let e = other_records l ts s r u n in
      record { told_so = ap (λ (o : Tallied). told (kind_name r.kind) o.answer.fault o.answer.value) e; kept = e }

  pub records_unchanged : (r : CallRecord) (u : List ℕ) → LayerUnchanged ts s r u (tallied l ts s r u)
  records_unchanged r u = go (ℕ_discrete (length ts) l.slots)
    where
      go : Dec (length ts ≡ l.slots) → LayerUnchanged ts s r u (tallied l ts s r u)
      go (yes e) = subst (LayerUnchanged ts s r u) (sym (enough_records l ts s r u e)) (kind_kept r.flags r.guest r.number r.exit r.«data» r.effect u r.kind)
      go (no n) =
          subst (LayerUnchanged ts s r u) (sym (other_records l ts s r u n)) (record { store = λ n. refl; «data» = λ n. refl; output = λ n. refl; records = λ n e. refl })
