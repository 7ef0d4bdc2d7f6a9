-- 02, L1: "Vendors free memory by giving an idle vCPU's state to L1. Get state with flag bit 1 takes it, set state with bit 1 gives it back."
use Rattle.std.specs.Prelude.{ℕ, Bool, not, ◌||◌, List, [], ◌∷◌, ◌++◌, ltb, length}
use Rattle.octets.specs.Bytes.{put}
use Rattle.answer.specs.declared.Fault.{Fault}
use Rattle.answer.specs.declared.Fault.TheVariants.{Length, Taken, Form}
use Rattle.handover.specs.Form.{begins, values_of, taken}
use Rattle.store.specs.declared.Layout.{Layout}
use Rattle.store.specs.Layout.{slot_at}
use Rattle.store.specs.Store.{put_taken}
use Rattle.admission.specs.Refusals.{Outcome, success, accept, decide}
use Rattle.admission.specs.Target.{slot_named, is_away, vcpu_tests}

-- "5 also on taking under 1,844 bytes (000's rule), on giving back under 24": under `least`, or over 65,536
abbrev pub out_of_range : ℕ → List ℕ → Bool
out_of_range least b = ltb (length b) least || ltb 65536 (length b)

-- The tests behind 4, where `away` says whether the vCPU is taken; and what is done with the one in slot j. "A taken vCPU's values are
-- zeroed."
abbrev pub take_tests : Bool → List ℕ → List (Bool × Fault)
take_tests away b = (away, Taken) ∷ (out_of_range 1844 b, Length) ∷ []

abbrev pub take_from : Layout → List ℕ → ℕ → ℕ → List ℕ → Outcome
take_from l s j vcpu b =
    record { answer = success 0; store = put_taken l (taken vcpu (slot_at l j) s b).store j 1; buffer = (taken vcpu (slot_at l j) s b).buffer }

-- "17 after 5 where the bytes do not begin with a form of this vCPU"
abbrev pub give_tests : Bool → ℕ → List ℕ → List (Bool × Fault)
give_tests away vcpu b = (not away, Taken) ∷ (out_of_range 24 b, Length) ∷ (not (begins vcpu b), Form) ∷ []

abbrev pub give_to : Layout → List ℕ → ℕ → List ℕ → Outcome
give_to l s j b = accept 0 (put_taken l (put s (slot_at l j) (values_of b)) j 0)

-- Get state with bit 1, and set state with it. "16 .. where the vCPU is taken, on giving back where it is not, after 4". Where bit 1 hands over
-- it is the only flag, so that 2 has nothing to refuse.
unfoldable pub take_vcpu : Layout → List ℕ → ℕ → ℕ → List ℕ → Outcome
take_vcpu l s guest vcpu b =
    decide s b (vcpu_tests l s guest vcpu ++ take_tests (is_away l s guest vcpu) b) (take_from l s (slot_named l s guest vcpu) vcpu b)

unfoldable pub give_vcpu : Layout → List ℕ → ℕ → ℕ → List ℕ → Outcome
give_vcpu l s guest vcpu b =
    decide s [] (vcpu_tests l s guest vcpu ++ give_tests (is_away l s guest vcpu) vcpu b) (give_to l s (slot_named l s guest vcpu) b)
