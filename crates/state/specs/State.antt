-- 01, "Answers", "The guest state buffer": get state and set state. "get and set state 1, 2, 3, 4, 5, then the elements"; 02, L1's 16 is right
-- behind 4. What they do with bit 1 is in HandOver.
use Rattle.std.specs.Prelude.{ℕ, ◌+◌, Bool, cond, List, [], ◌∷◌, ◌++◌}
use Rattle.octets.specs.Bytes.{be}
use Rattle.answer.specs.declared.Fault.{Fault}
use Rattle.answer.specs.declared.Fault.TheVariants.{Length}
use Rattle.elements.specs.declared.Scope.TheVariants.{Guest}
use Rattle.elements.specs.Table.{position}
use Rattle.elements.specs.Later.{offer_of}
use Rattle.rules.specs.declared.Usage.{Usage}
use Rattle.rules.specs.declared.Usage.TheVariants.{GuestGet, GuestSet, ThreadGet, ThreadSet}
use Rattle.rules.specs.declared.Context.{Context}
use Rattle.gsb.specs.Walk.{count_of, bad_length, first_bad, is_stopped, fault_of}
use Rattle.gsb.specs.Message.{message}
use Rattle.store.specs.declared.Layout.{Layout}
use Rattle.store.specs.Layout.{guest_at}
use Rattle.store.specs.Header.{header, capabilities_of}
use Rattle.transfer.specs.Transfer.{applied, filled}
use Rattle.admission.specs.Refusals.{Outcome, success, accept, decide, bit0, has_bit0, bit1, hands_over}
use Rattle.admission.specs.Target.{target_tests, base_of}
use Rattle.state.specs.HandOver.{take_vcpu, give_vcpu}

-- the PVR of a guest: element 0x0003, of 4 bytes
abbrev pub pvr_of : Layout → List ℕ → ℕ → ℕ
pvr_of l s guest = be s (guest_at l guest + position Guest 0x0003) 4

-- the use of the buffer, the capabilities agreed at the call, and the guest's list. 02, L7: "the guest's PVR at the start of the call decides"
abbrev pub context_of : Layout → List ℕ → ℕ → Usage → Context
context_of l s guest usage = record { usage = usage; capabilities = capabilities_of (header l s); offer = offer_of (pvr_of l s guest) }

-- 6, 7 and 8 with the place: the first bad element refuses the call
abbrev pub bad_element : Context → List ℕ → Bool × Fault
bad_element k b = (is_stopped (first_bad k b), fault_of (first_bad k b))

-- 5, then the elements
abbrev pub buffer_tests : Context → List ℕ → List (Bool × Fault)
buffer_tests k b = (bad_length b, Length) ∷ bad_element k b ∷ []

-- "Supported: get and set state bit 0 (guest-wide; the vCPU id is then ignored)": the use of the buffer
abbrev pub set_use : Bool → Usage
set_use wide = cond wide GuestSet ThreadSet

abbrev pub get_use : Bool → Usage
get_use wide = cond wide GuestGet ThreadGet

-- 02, L1: "Both bits together are answer 2 with R4 1": bit 1 is supported where bit 0 is not set
abbrev pub supported_bits : Bool → ℕ
supported_bits wide = cond wide bit0 bit1

-- H_GUEST_SET_STATE of elements: the whole buffer is judged, then its values are stored
unfoldable pub set_elements : Layout → List ℕ → ℕ → ℕ → ℕ → List ℕ → Outcome
set_elements l s flags guest vcpu b =
    decide s []
    (target_tests l s (supported_bits (has_bit0 flags)) flags (has_bit0 flags) guest vcpu ++ buffer_tests (context_of l s guest (set_use (has_bit0 flags))) b)
    (accept 0 (applied (base_of l s (has_bit0 flags) guest vcpu) b (count_of b) s))

unfoldable pub set_state : Layout → List ℕ → ℕ → ℕ → ℕ → List ℕ → Outcome
set_state l s flags guest vcpu b = cond (hands_over flags) (give_vcpu l s guest vcpu b) (set_elements l s flags guest vcpu b)

-- H_GUEST_GET_STATE of elements: the whole buffer is judged, then its values are filled in
abbrev pub fill_with : List ℕ → ℕ → List ℕ → Outcome
fill_with s base b = record { answer = success 0; store = s; buffer = filled base s b (count_of b) }

unfoldable pub get_elements : Layout → List ℕ → ℕ → ℕ → ℕ → List ℕ → Outcome
get_elements l s flags guest vcpu b =
    decide s b
    (target_tests l s (supported_bits (has_bit0 flags)) flags (has_bit0 flags) guest vcpu ++ buffer_tests (context_of l s guest (get_use (has_bit0 flags))) b)
    (fill_with s (base_of l s (has_bit0 flags) guest vcpu) b)

unfoldable pub get_state : Layout → List ℕ → ℕ → ℕ → ℕ → List ℕ → Outcome
get_state l s flags guest vcpu b = cond (hands_over flags) (take_vcpu l s guest vcpu b) (get_elements l s flags guest vcpu b)

-- of one thread element, in a buffer that holds it alone: what the L1 cache reads
abbrev pub got_element : Layout → List ℕ → ℕ → ℕ → ℕ → List ℕ → Outcome
got_element l s guest vcpu id v = get_state l s 0 guest vcpu (message ((id, v) ∷ []))
