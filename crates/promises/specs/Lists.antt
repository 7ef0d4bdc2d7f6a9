-- 02, L7: "With any other PVR the list of 01 holds; both lists are kept, and the guest's PVR at the start of the call decides." The theorems are
-- `power9_guest`, `other_pvr` and `kept_between_lists`; what a list permits is `power9_exactly` of the crate rules.
use Rattle.std.specs.Prelude.{ℕ, List, [], ◌∷◌}
use Rattle.elements.specs.declared.Offer.TheVariants.{Full}
use Rattle.rules.specs.declared.Context.{Context}
use Rattle.rules.specs.declared.Usage.{Usage}
use Rattle.store.specs.declared.Layout.{Layout}
use Rattle.store.specs.Header.{header, capabilities_of}
use Rattle.admission.specs.Refusals.{bit0}
use Rattle.l0.specs.Calls.{Call, SetState}

-- "the list of 01"
abbrev pub by_first_list : Layout → List ℕ → Usage → Context
by_first_list l s usage = record { usage = usage; capabilities = capabilities_of (header l s); offer = Full }

-- guest-wide sets of a guest, one for each buffer: they can change its PVR
abbrev pub wide_sets : ℕ → List (List ℕ) → List Call
wide_sets guest [] = []
wide_sets guest (b ∷ bs) = SetState bit0 guest 0 b ∷ wide_sets guest bs
