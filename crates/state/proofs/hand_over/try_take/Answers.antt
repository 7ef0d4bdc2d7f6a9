-- By the slot: the laws `take-..` of HandOvers.
use Rattle.admission.proofs.Leaving.{left_with}
use Rattle.store.proofs.Sizes.{sized_size, sized_slots}
use Rattle.admission.proofs.Targets.{within_size, within_slots, within_id}
use Rattle.state.proofs.HandOvers.{take_turned, take_found}
use borrow.Author.Rules.{rules}
use Rattle.state.proofs.hand_over.try_take.Goals as goal

pub take_at-requires : goal.take_at-requires
take_at-requires c = (search (rules, sized_size, within_size), search (rules, sized_slots, within_slots), search (rules, within_id))

pub returns-in_err-slot : goal.returns-in_err-slot
returns-in_err-slot c = rw (left_with _ _ c.from_residual.ensures.1) (search (rules, take_turned, c.in_err-slot.was))

pub returns : goal.returns
returns c = search (rules, take_found, c.in_ok-slot.was)
