-- 01, "The L1 cache": "Calls on other guests: get capabilities, create guest; with any guest number but that vCPU's, live or not, create
-- vCPU, get and set state, run, delete without bit 0, clock."
use Rattle.std.specs.Prelude.{ℕ, ◌≡◌, ◌≢◌, false}
use Rattle.admission.specs.Refusals.{has_bit0}
use Rattle.l0.specs.Calls.{Call, GetCapabilities, SetCapabilities, CreateGuest, CreateVcpu, GetState, SetState, RunVcpu, DeleteGuest, GuestClock}

-- the vCPU is one of guest g; set capabilities is not listed
abbrev pub Elsewhere : ℕ → Call → Type 0
Elsewhere g (GetCapabilities flags) = Unit {0}
Elsewhere g (SetCapabilities flags bitmap) = ⊥
Elsewhere g (CreateGuest flags token) = Unit {0}
Elsewhere g (CreateVcpu flags guest vcpu) = guest ≢ g
Elsewhere g (GetState flags guest vcpu buffer) = guest ≢ g
Elsewhere g (SetState flags guest vcpu buffer) = guest ≢ g
Elsewhere g (RunVcpu flags guest vcpu input output effect exit) = guest ≢ g
Elsewhere g (DeleteGuest flags guest) = (has_bit0 flags ≡ false) × (guest ≢ g)
Elsewhere g (GuestClock guest timebase) = guest ≢ g
