-- What was read of the element is what the definition reads.
use Rattle.transfer.proofs.Moving.{empty_next, empty_filled, ready_moves, ready_inside, filled_element}
use borrow.Author.Rules.{rules}
use Rattle.transfer.proofs.filling.fill_other.Goals as goal

pub returns-then-get32-eq0 : goal.returns-then-get32-eq0
returns-then-get32-eq0 c = (search (rules, empty_next), search (rules, empty_filled))

pub fill_as-requires : goal.fill_as-requires
fill_as-requires c = (search (rules, ready_moves), search (rules, ready_inside))

pub returns : goal.returns
returns c = (search rules, search (rules, filled_element))
