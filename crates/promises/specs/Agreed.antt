-- 02, L12: "From then on, over any calls from a fresh store, each live guest's PVR is 0 or an agreed one; I want that proved." The theorem is
-- `pvr_agreed`.
use Rattle.std.specs.Prelude.{ℕ, ◌≡◌, ◌⊎◌, true, List, [], ◌∷◌}
use Rattle.rules.specs.Rules.{good_pvr}
use Rattle.store.specs.declared.Layout.{Layout}
use Rattle.store.specs.Header.{header, live, offered, capabilities_of}
use Rattle.admission.specs.Refusals.{bit0}
use Rattle.state.specs.State.{pvr_of}
use Rattle.l0.specs.Calls.{Call, SetCapabilities, SetState}
use Rattle.promises.specs.Edges.{new_guest, one}

-- "0 or an agreed one": one that a set would take under these capabilities
abbrev pub ZeroOrAgreed : ℕ → ℕ → Type 0
ZeroOrAgreed capabilities pvr = (pvr ≡ 0) ⊎ (good_pvr capabilities pvr ≡ true)

-- "each live guest's PVR"
abbrev pub PvrAgreed : Layout → List ℕ → Type 0
PvrAgreed l s = (g : ℕ) → live l (header l s) g ≡ true → ZeroOrAgreed (capabilities_of (header l s)) (pvr_of l s g)

-- a history in which a guest lives with each of the two PVRs: both capabilities are agreed, guests 1 and 2 are created, and each is given one
unfoldable pub both_pvrs : List Call
both_pvrs =
    SetCapabilities 0 offered ∷ new_guest ∷ new_guest
    ∷ SetState bit0 1 0 (one 0x0003 4 0x0F000005)
    ∷ SetState bit0 2 0 (one 0x0003 4 0x0F000006)
    ∷ []

-- guest g lives with the PVR v
pub record LivesWith (l : Layout) (s : List ℕ) (g v : ℕ) : Type 0 where
  pub alive : live l (header l s) g ≡ true
  pub pvr : pvr_of l s g ≡ v
