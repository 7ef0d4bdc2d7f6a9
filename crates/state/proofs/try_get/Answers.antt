-- By the target (`get_turned`, `get_found`).
use Rattle.admission.proofs.Leaving.{left_with}
use Rattle.admission.proofs.Targets.{found_low, found_high, held_size, held_room}
use Rattle.state.proofs.Buffers.{get_room, get_turned, get_found}
use borrow.Author.Rules.{rules}
use Rattle.state.proofs.try_get.Goals as goal

pub context_of-k-requires : goal.context_of-k-requires
context_of-k-requires c = (search (rules, held_size), search (rules, found_low), search (rules, found_high))

pub get_at-requires : goal.get_at-requires
get_at-requires c = search (rules, get_room, held_size, held_room)

pub returns-in_err-base : goal.returns-in_err-base
returns-in_err-base c = rw (left_with _ _ c.from_residual.ensures.1) (search (rules, get_turned, c.in_err-base.was))

pub returns : goal.returns
returns c = search (rules, get_found, c.in_ok-base.was)
