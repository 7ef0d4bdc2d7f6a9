-- By the mark, the length, and whether a form was given (`give-..`).
use Rattle.state.proofs.HandOvers.{in_range, give_here, give_length, give_form, give_done}
use borrow.Author.Rules.{rules}
use Rattle.state.proofs.hand_over.give_at.Goals as goal

pub returns-then-not-is_taken : goal.returns-then-not-is_taken
returns-then-not-is_taken c = search (rules, give_here)

pub returns-then-out_of_range : goal.returns-then-out_of_range
returns-then-out_of_range c = search (rules, give_length)

pub give-requires : goal.give-requires
give-requires c = (search rules, search rules, search (rules, in_range))

pub returns-then-not-give : goal.returns-then-not-give
returns-then-not-give c = search (rules, give_form)

pub returns : goal.returns
returns c = search (rules, give_done)
