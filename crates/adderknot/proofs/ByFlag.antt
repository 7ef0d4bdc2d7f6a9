-- Get and set state by the flag that hands a vCPU over. Assumes nothing.
use mathlib.Core.Path.{◌≡◌, ap, ◌∙◌}
use mathlib.Core.List.{List}
use Prim.Native.Nat.{ℕ, ◌^◌}
use borrow.Author.Tests.{eq-eqb, ne_eqb}
use Rattle.answer.specs.declared.Call.{Call}
use Rattle.store.specs.declared.Layout.{Layout}
use Rattle.state.specs.State.{get_elements, get_state, set_elements, set_state}
use Rattle.state.specs.HandOver.{take_vcpu, give_vcpu}
use Rattle.state.proofs.HandOvers.{get_takes, get_plain, set_gives, set_plain}
use Rattle.adderknot.specs.Entries.{Left, leaves, Filled, fills}

module _ (l : Layout) (s : List ℕ) (flags guest vcpu : ℕ) (b : List ℕ) where
  module _ (x : Filled) where
    pub got_by_taking : flags ≡ 2 ^ 62 → x ≡ fills Call.GetState (take_vcpu l s guest vcpu b) → x ≡ fills Call.GetState (get_state l s flags guest vcpu b)
    got_by_taking n e = e ∙ ap (fills Call.GetState) (get_takes l s flags guest vcpu b (eq-eqb _ _ n))

    pub got_by_elements : (flags ≡ 2 ^ 62 → ⊥) → x ≡ fills Call.GetState (get_elements l s flags guest vcpu b) → x ≡ fills Call.GetState (get_state l s flags guest vcpu b)
    got_by_elements n e = e ∙ ap (fills Call.GetState) (get_plain l s flags guest vcpu b (ne_eqb _ _ n))

  module _ (x : Left) where
    pub set_by_giving : flags ≡ 2 ^ 62 → x ≡ leaves Call.SetState (give_vcpu l s guest vcpu b) → x ≡ leaves Call.SetState (set_state l s flags guest vcpu b)
    set_by_giving n e = e ∙ ap (leaves Call.SetState) (set_gives l s flags guest vcpu b (eq-eqb _ _ n))

    pub set_by_elements : (flags ≡ 2 ^ 62 → ⊥) → x ≡ leaves Call.SetState (set_elements l s flags guest vcpu b) → x ≡ leaves Call.SetState (set_state l s flags guest vcpu b)
    set_by_elements n e = e ∙ ap (leaves Call.SetState) (set_plain l s flags guest vcpu b (ne_eqb _ _ n))
