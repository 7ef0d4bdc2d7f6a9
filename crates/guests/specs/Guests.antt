-- 01, "Answers" and "The store": guests and vCPUs created and deleted. Each call's refusals in the order of "When several apply", then its effect.
use Rattle.std.specs.Prelude.{ℕ, ◌-◌, ◌^◌, not, ◌&&◌, cond, List, [], ◌∷◌, ltb, eqb}
use Rattle.answer.specs.declared.Fault.TheVariants.{Guest, Token, Vcpu, Room, Exists}
use Rattle.store.specs.declared.Layout.{Layout}
use Rattle.store.specs.Header.{header, live, slot_of, free_slot, free_guest}
use Rattle.store.specs.Store.{with_guest, with_vcpu, without_guest, without_guests}
use Rattle.admission.specs.Refusals.{Outcome, accept, decide, malformed, unsupported, not_live, bit0, has_bit0}

-- H_GUEST_CREATE: "create guest 1, 2, 3, 9", where 3 is "token not all ones"; "the lowest free id", which R4 tells
unfoldable pub create_guest : Layout → List ℕ → ℕ → ℕ → Outcome
create_guest l s flags token =
    decide s []
    (malformed l s ∷ unsupported 0 flags ∷ (not (eqb token (2 ^ 64 - 1)), Token) ∷ (ltb l.guests (free_guest l (header l s)), Room) ∷ [])
    (accept (free_guest l (header l s)) (with_guest l s (free_guest l (header l s))))

-- H_GUEST_CREATE_VCPU: "create vCPU 1, 2, 3, 4, 10, 9"; the lowest free slot. The slot of a vCPU is below their number if it exists.
unfoldable pub create_vcpu : Layout → List ℕ → ℕ → ℕ → ℕ → Outcome
create_vcpu l s flags guest vcpu =
    decide s []
    (malformed l s ∷ unsupported 0 flags ∷ not_live l s guest ∷ (not (ltb vcpu 2048), Vcpu)
    ∷ (ltb (slot_of l (header l s) guest vcpu) l.slots, Exists)
    ∷ (not (ltb (free_slot l (header l s)) l.slots), Room) ∷ [])
    (accept 0 (with_vcpu l s (free_slot l (header l s)) guest vcpu))

-- H_GUEST_DELETE: "others 1, 2, 3"; "delete bit 0 (all guests; the id is then ignored)"
unfoldable pub delete_guest : Layout → List ℕ → ℕ → ℕ → Outcome
delete_guest l s flags guest =
    decide s []
    (malformed l s ∷ unsupported bit0 flags ∷ (not (has_bit0 flags) && not (live l (header l s) guest), Guest) ∷ [])
    (accept 0 (cond (has_bit0 flags) (without_guests l s) (without_guest l s guest)))
