-- A call by its number through the entry of that call: each kind is a line of the table of calls. Assumes nothing.
use mathlib.Core.Path.{◌≡◌, refl, sym, ap, ◌∙◌}
use mathlib.Core.List.{List, [], ◌∷◌}
use Prim.Native.Nat.{ℕ}
use Rattle.answer.specs.declared.Answer.{Answer}
use Rattle.answer.specs.declared.Fault.TheVariants.{Record}
use Rattle.answer.specs.declared.Call.{Call as Name}
use Rattle.answer.specs.declared.Registers.{Registers}
use Rattle.answer.specs.Answer.{told}
use Rattle.store.specs.declared.Layout.{Layout}
use Rattle.admission.specs.Refusals.{Outcome, accept, refusal, refuse, decide, malformed, unsupported}
use Rattle.admission.proofs.Judging.{each_way}
use Rattle.state.specs.State.{get_state, set_state}
use Rattle.run.specs.Run.{run_vcpu}
use Rattle.guests.specs.Guests.{create_guest, create_vcpu, delete_guest}
use Rattle.store.specs.Header.{offered}
use Rattle.l0.specs.Calls.{get_capabilities, set_capabilities, outcome}
use Rattle.l0.specs.Numbered.{CallRecord, called}
use Rattle.std.specs.Prelude.{Option, Some, None}
use Rattle.l0.specs.declared.numbered.Kind.{Kind}
use Rattle.l0.specs.Kinds.{kind_of}
use Rattle.l0.proofs.ByNumber.{number_is, past_eight, call_other}
use Rattle.adderknot.specs.Entries.{Left, tells, leaves, Filled, fills, Made, makes}

module _ (l : Layout) (s : List ℕ) (k flags guest number exit : ℕ) (d effect u : List ℕ) (o : Option Kind) (found : o ≡ kind_of k) where
  abbrev given : ℕ → CallRecord
  given n = record { kind = n; flags = flags; guest = guest; number = number; exit = exit; «data» = d; effect = effect }

  abbrev Is : Made → Type 0
  Is x = x ≡ makes k (called l s (given k) u)

  kind_is : (n : ℕ) (x : Made) → k ≡ n → x ≡ makes n (called l s (given n) u) → Is x
  kind_is n x e q = q ∙ ap (λ (m : ℕ). makes m (called l s (given m) u)) (sym e)

  module _ (r : Registers) where
    pub by_get_capabilities : (y : Kind) → o ≡ Some y → y ≡ Kind.GetCapabilities → r ≡ tells Name.GetCapabilities (get_capabilities l s flags) → Is (record { registers = r; store = s; «data» = d; output = u })
    unfolding called outcome get_capabilities decide
    by_get_capabilities y h e q =
        let z = get_capabilities l s flags in
        let same : z.store ≡ s = each_way (λ (x : Outcome). x.store ≡ s) (refuse s []) (malformed l s ∷ unsupported 0 flags ∷ []) (accept offered s) (λ f. refl) (λ p. refl) in
        kind_is 1 _ (number_is k o found y h Kind.GetCapabilities e)
        (ap (λ (x : Registers). record { registers = x; store = s; «data» = d; output = u }) q
        ∙ ap (λ (x : List ℕ). record { registers = tells Name.GetCapabilities z; store = x; «data» = d; output = u }) (sym same))

    module _ (t : List ℕ) where
      abbrev leftover : Left → Made
      leftover x = record { registers = x.registers; store = x.store; «data» = d; output = u }

      pub by_set_capabilities : (y : Kind) → o ≡ Some y → y ≡ Kind.SetCapabilities → ◌≡◌ {A = Left} (record { registers = r; store = t }) (leaves Name.SetCapabilities (set_capabilities l s flags number))
          → Is (record { registers = r; store = t; «data» = d; output = u })
      unfolding called outcome
      by_set_capabilities y h e q = kind_is 2 _ (number_is k o found y h Kind.SetCapabilities e) (ap leftover q)

      pub by_create_guest : (y : Kind) → o ≡ Some y → y ≡ Kind.CreateGuest → ◌≡◌ {A = Left} (record { registers = r; store = t }) (leaves Name.CreateGuest (create_guest l s flags number))
          → Is (record { registers = r; store = t; «data» = d; output = u })
      unfolding called outcome
      by_create_guest y h e q = kind_is 3 _ (number_is k o found y h Kind.CreateGuest e) (ap leftover q)

      pub by_create_vcpu : (y : Kind) → o ≡ Some y → y ≡ Kind.CreateVcpu → ◌≡◌ {A = Left} (record { registers = r; store = t }) (leaves Name.CreateVcpu (create_vcpu l s flags guest number))
          → Is (record { registers = r; store = t; «data» = d; output = u })
      unfolding called outcome
      by_create_vcpu y h e q = kind_is 4 _ (number_is k o found y h Kind.CreateVcpu e) (ap leftover q)

      pub by_get_state : (b : List ℕ) → (y : Kind) → o ≡ Some y → y ≡ Kind.GetState → ◌≡◌ {A = Filled} (record { registers = r; store = t; buffer = b }) (fills Name.GetState (get_state l s flags guest number d))
          → Is (record { registers = r; store = t; «data» = b; output = u })
      unfolding called outcome
      by_get_state b y h e q = kind_is 5 _ (number_is k o found y h Kind.GetState e) (ap (λ (x : Filled). record { registers = x.registers; store = x.store; «data» = x.buffer; output = u }) q)

      pub by_set_state : (y : Kind) → o ≡ Some y → y ≡ Kind.SetState → ◌≡◌ {A = Left} (record { registers = r; store = t }) (leaves Name.SetState (set_state l s flags guest number d))
          → Is (record { registers = r; store = t; «data» = d; output = u })
      unfolding called outcome
      by_set_state y h e q = kind_is 6 _ (number_is k o found y h Kind.SetState e) (ap leftover q)

      pub by_run_vcpu : (b : List ℕ) → (y : Kind) → o ≡ Some y → y ≡ Kind.RunVcpu → ◌≡◌ {A = Filled} (record { registers = r; store = t; buffer = b }) (fills Name.RunVcpu (run_vcpu l s flags guest number d u effect exit))
          → Is (record { registers = r; store = t; «data» = d; output = b })
      unfolding called outcome
      by_run_vcpu b y h e q = kind_is 7 _ (number_is k o found y h Kind.RunVcpu e) (ap (λ (x : Filled). record { registers = x.registers; store = x.store; «data» = d; output = x.buffer }) q)

      pub by_delete_guest : (y : Kind) → o ≡ Some y → y ≡ Kind.DeleteGuest → ◌≡◌ {A = Left} (record { registers = r; store = t }) (leaves Name.DeleteGuest (delete_guest l s flags guest))
          → Is (record { registers = r; store = t; «data» = d; output = u })
      unfolding called outcome
      by_delete_guest y h e q = kind_is 8 _ (number_is k o found y h Kind.DeleteGuest e) (ap leftover q)

  pub by_none : (a : Answer) (r : Registers) → o ≡ None
      → a ≡ refusal (Record 0) → r ≡ told Name.FreshStore a.fault a.value → Is (record { registers = r; store = s; «data» = d; output = u })
  by_none a r n q h =
      ap (λ (x : Registers). record { registers = x; store = s; «data» = d; output = u })
      (h ∙ ap (λ (x : Name). told x a.fault a.value) (sym (past_eight _ _ _ _ _ _ _ _ _ k o found n)))
      ∙ ap (makes k) (call_other l s k flags guest number exit d effect u o found a n q)
