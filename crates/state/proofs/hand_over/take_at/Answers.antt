-- By the mark, the length, and what is taken (`take-..`).
use Rattle.state.proofs.HandOvers.{in_range, take_away, take_length, take_done}
use borrow.Author.Rules.{rules}
use Rattle.state.proofs.hand_over.take_at.Goals as goal

pub returns-then-is_taken : goal.returns-then-is_taken
returns-then-is_taken c = search (rules, take_away)

pub returns-then-out_of_range : goal.returns-then-out_of_range
returns-then-out_of_range c = search (rules, take_length)

pub take-requires : goal.take-requires
take-requires c = (search rules, search rules, search (rules, in_range))

pub returns : goal.returns
returns c = search (rules, take_done)
