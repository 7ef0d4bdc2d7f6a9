-- By the slot: the laws `give-..` of HandOvers.
use Rattle.admission.proofs.Leaving.{left_with}
use Rattle.store.proofs.Sizes.{sized_size, sized_slots}
use Rattle.admission.proofs.Targets.{within_size, within_slots, within_id}
use Rattle.state.proofs.HandOvers.{give_turned, give_found}
use borrow.Author.Rules.{rules}
use Rattle.state.proofs.hand_over.try_give.Goals as goal

pub give_at-requires : goal.give_at-requires
give_at-requires c = (search (rules, sized_size, within_size), search (rules, sized_slots, within_slots), search (rules, within_id))

pub returns-in_err-slot : goal.returns-in_err-slot
returns-in_err-slot c = rw (left_with _ _ c.from_residual.ensures.1) (search (rules, give_turned, c.in_err-slot.was))

pub returns : goal.returns
returns c = search (rules, give_found, c.in_ok-slot.was)
