-- What get, set and run name: a guest, or the slot of its vCPU; and what is left beside it. Assumes nothing.
use mathlib.Core.Path.{◌≡◌, refl, sym, ◌∙◌, subst}
use mathlib.Core.Bool.{Bool, true, false, not, ◌&&◌, cond}
use mathlib.Core.List.{List, [], ◌∷◌, ◌++◌}
use Prim.Native.Nat.{ℕ}
use lib.Dec.{leb}
use lib.ListN.{length}
use borrow.Author.Tests.{leb-false, not-false}
use Rattle.answer.specs.declared.Fault.{Fault}
use Rattle.answer.specs.declared.Fault.TheVariants.{Vcpu, Taken}
use Rattle.rules.specs.declared.Usage.{Usage}
use Rattle.elements.specs.Right.{bytes_of}
use Rattle.rules.specs.Rules.{scope_for}
use Rattle.gsb.specs.Walk.{count_of, first_bad}
use Rattle.store.specs.declared.Layout.{Layout}
use Rattle.store.specs.Layout.{Sound, guest_at, slot_at}
use Rattle.store.specs.Header.{header, slot_of}
use Rattle.store.proofs.Tests.{live_parts}
use Rattle.transfer.specs.Transfer.{applied}
use Rattle.admission.specs.Refusals.{Passed, malformed, unsupported, not_live}
use Rattle.admission.specs.Target.{is_away, is_absent, base_of}
use Rattle.state.specs.State.{context_of}
use Rattle.promises.specs.Mirror.{place_of, room_of, Inside}
use Rattle.promises.proofs.Both.Values.{Beside, applied_beside}
use Rattle.std.proofs.Common.{Ok}

-- of tests in a row none of which holds, the first ones
pub passed_first : (xs ys : List (Bool × Fault)) → Passed (xs ++ ys) → Passed xs
passed_first [] ys p = tt
passed_first (x ∷ xs) ys p = (p.0, passed_first xs ys p.1)

-- 1 to 4, and then 16: the mark is one of the slot, and so is looked at only where there is one
abbrev pub named_tests : ℕ → ℕ → Bool → ℕ → ℕ → Layout → List ℕ → List (Bool × Fault)
named_tests supported flags wide guest vcpu l s = malformed l s ∷ unsupported supported flags ∷ not_live l s guest ∷ (not wide && is_absent l s guest vcpu, Vcpu) ∷ []

abbrev pub away_test : Bool → ℕ → ℕ → Layout → List ℕ → Bool × Fault
away_test wide guest vcpu l s = (not wide && is_away l s guest vcpu, Taken)

-- the guest, or the slot of its vCPU
abbrev pub index_of : Layout → List ℕ → Bool → ℕ → ℕ → ℕ
index_of l s wide guest vcpu = cond wide guest (slot_of l (header l s) guest vcpu)

pub beside_then : (l : Layout) (wide : Bool) (i : ℕ) (s t u : List ℕ) → Beside l wide i s t → Beside l wide i t u → Beside l wide i s u
beside_then l wide i s t u a b x k h n = b x k h n ∙ a x k h n

module _ (l : Layout) (s : List ℕ) (wide : Bool) (guest vcpu : ℕ) where
  pub base_index : base_of l s wide guest vcpu ≡ place_of l wide (index_of l s wide guest vcpu)
  unfolding base_of
  base_index = go wide
    where
      go : (x : Bool) → cond x (guest_at l guest) (slot_at l (slot_of l (header l s) guest vcpu)) ≡ place_of l x (cond x guest (slot_of l (header l s) guest vcpu))
      go true = refl
      go false = refl

  module _ (supported flags : ℕ) (p : Passed (named_tests supported flags wide guest vcpu l s)) where
    pub index_inside : Inside l wide (index_of l s wide guest vcpu)
    index_inside = go wide p.1.1.1.0
      where
        go : (x : Bool) → (not x && leb l.slots (slot_of l (header l s) guest vcpu)) ≡ false → Inside l x (cond x guest (slot_of l (header l s) guest vcpu))
        go true e = live_parts l (header l s) guest (not-false _ p.1.1.0)
        go false e = leb-false _ _ e

    -- an accepted buffer stored there, in a store t of the same length
    pub target_beside : Sound l → (t : List ℕ) → length t ≡ l.size → (usage : Usage) (b : List ℕ) → first_bad (context_of l s guest usage) b ≡ Ok tt → bytes_of (scope_for usage) ≡ room_of wide
        → Beside l wide (index_of l s wide guest vcpu) t (applied (base_of l s wide guest vcpu) b (count_of b) t)
    target_beside so t long usage b d r =
        subst (λ (x : ℕ). Beside l wide (index_of l s wide guest vcpu) t (applied x b (count_of b) t)) (sym base_index)
        (applied_beside l so t long wide (index_of l s wide guest vcpu) index_inside (context_of l s guest usage) b d r)
