-- The PVR stands where the guest's values start (`context_is`).
use Rattle.store.proofs.Sizes.{sized_size, sized_guests}
use Rattle.state.proofs.Buffers.{context_inside, context_is}
use borrow.Author.Rules.{rules}
use Rattle.state.proofs.context_of.Goals as goal

pub guest_at-requires : goal.guest_at-requires
guest_at-requires c = (search rules, search (rules, sized_guests))

pub get32-pvr-requires : goal.get32-pvr-requires
get32-pvr-requires c = context_inside _ _ _ _ c.guest_at.ensures c.layout_of-l.ensures c.requires.0

pub capabilities_of-requires : goal.capabilities_of-requires
capabilities_of-requires c = search (rules, sized_size)

pub returns : goal.returns
returns c = search (rules, context_is)
