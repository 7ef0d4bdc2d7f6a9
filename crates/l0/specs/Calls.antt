-- 01, "Answers" and "The store": each call's refusals in the order of "When several apply", then its effect.
use Rattle.std.specs.Prelude.{ℕ, ◌+◌, ◌-◌, ◌*◌, ◌/◌, ◌%◌, ◌^◌, Bool, not, ◌&&◌, List, [], ◌∷◌, length, ◌==◌}
use Rattle.octets.specs.Bytes.{be}
use Rattle.answer.specs.declared.Fault.TheVariants.{Store, Length, Capability, InUse}
use Rattle.elements.specs.declared.Scope.TheVariants.{Guest as GuestWide}
use Rattle.elements.specs.Table.{position}
use Rattle.store.specs.declared.Layout.{Layout}
use Rattle.store.specs.Layout.{small, large, guest_at}
use Rattle.store.specs.Header.{header, outside, offered, capabilities_of, any_live}
use Rattle.store.specs.Store.{well_formed, fresh, put_capabilities}
use Rattle.store.specs.Conversion.{converted}
use Rattle.state.specs.State.{get_state, set_state}
use Rattle.run.specs.Run.{run_vcpu}
use Rattle.guests.specs.Guests.{create_guest, create_vcpu, delete_guest}
use Rattle.admission.specs.Refusals.{Outcome, accept, decide, malformed, unsupported, not_live}

-- "A fresh store is all zeros; a buffer of another length is 1."
unfoldable pub fresh_store : Layout → List ℕ → Outcome
fresh_store l s = decide s [] ((not (length s == l.size), Store) ∷ []) (accept 0 (fresh l))

-- H_GUEST_GET_CAPABILITIES: "others 1, 2, 3"; R4 is the offered bitmap
unfoldable pub get_capabilities : Layout → List ℕ → ℕ → Outcome
get_capabilities l s flags = decide s [] (malformed l s ∷ unsupported 0 flags ∷ []) (accept offered s)

-- 02, L12: "Set capabilities is now refused while any guest lives, unless the bitmap equals the agreed one."
abbrev pub in_use : Layout → List ℕ → ℕ → Bool
in_use l s bitmap = any_live l (header l s) && not (bitmap == capabilities_of (header l s))

-- H_GUEST_SET_CAPABILITIES: "others 1, 2, 3", where 3 is "bit not offered", and 02, L12's "21 after 3"; "Set stores the bitmap."
unfoldable pub set_capabilities : Layout → List ℕ → ℕ → ℕ → Outcome
set_capabilities l s flags bitmap =
    decide s []
    (malformed l s ∷ unsupported 0 flags ∷ (not (outside offered bitmap == 0), Capability) ∷ (in_use l s bitmap, InUse) ∷ [])
    (accept 0 (put_capabilities s bitmap))

-- "The guest clock, given an L1 timebase, is the sum of it and 0x0004, and the sum wraps at 2^64. It answers 1, then 3."
abbrev pub offset_of : Layout → List ℕ → ℕ → ℕ
offset_of l s guest = be s (guest_at l guest + position GuestWide 0x0004) 8

-- 02, L2: "KVM rounds an offset up to a multiple of 16,777,216"; "The guest clock now uses the offset rounded up so, wrapping at 2^64"
abbrev pub rounded_up : ℕ → ℕ
rounded_up offset = (offset + (2 ^ 24 - 1)) / 2 ^ 24 * 2 ^ 24 % 2 ^ 64

unfoldable pub guest_clock : Layout → List ℕ → ℕ → ℕ → Outcome
guest_clock l s guest timebase =
    decide s [] (malformed l s ∷ not_live l s guest ∷ []) (accept ((timebase + rounded_up (offset_of l s guest)) % 2 ^ 64) s)

-- 02, L6: "A conversion writes a small store as a large one (values at the same guest and slot, in use or not, else zero)"; "conversion gives 1 for
-- a source that is not a well-formed small store, then 5 for a target of another length". The store that it leaves is the target t.
unfoldable pub convert : List ℕ → List ℕ → Outcome
convert s t =
    decide t [] ((not (well_formed small s), Store) ∷ (not (length t == large.size), Length) ∷ []) (accept 0 (converted small large s))

-- A call with its arguments; a history is a list of them.
pub data Call : Type 0 where
  GetCapabilities : ℕ → Call
  SetCapabilities : ℕ → ℕ → Call
  CreateGuest : ℕ → ℕ → Call
  CreateVcpu : ℕ → ℕ → ℕ → Call
  GetState : ℕ → ℕ → ℕ → List ℕ → Call
  SetState : ℕ → ℕ → ℕ → List ℕ → Call
  RunVcpu : ℕ → ℕ → ℕ → List ℕ → List ℕ → List ℕ → ℕ → Call
  DeleteGuest : ℕ → ℕ → Call
  GuestClock : ℕ → ℕ → Call

unfoldable pub outcome : Layout → List ℕ → Call → Outcome
outcome l s (GetCapabilities flags) = get_capabilities l s flags
outcome l s (SetCapabilities flags bitmap) = set_capabilities l s flags bitmap
outcome l s (CreateGuest flags token) = create_guest l s flags token
outcome l s (CreateVcpu flags guest vcpu) = create_vcpu l s flags guest vcpu
outcome l s (GetState flags guest vcpu buffer) = get_state l s flags guest vcpu buffer
outcome l s (SetState flags guest vcpu buffer) = set_state l s flags guest vcpu buffer
outcome l s (RunVcpu flags guest vcpu input output effect exit) = run_vcpu l s flags guest vcpu input output effect exit
outcome l s (DeleteGuest flags guest) = delete_guest l s flags guest
outcome l s (GuestClock guest timebase) = guest_clock l s guest timebase

-- the store after a list of calls
unfoldable pub after : Layout → List ℕ → List Call → List ℕ
after l s [] = s
after l s (c ∷ cs) = after l (outcome l s c).store cs
