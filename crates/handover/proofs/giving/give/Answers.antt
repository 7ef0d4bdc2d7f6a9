-- Rests on `all_given` and `not_given`.
use borrow.Author.Rules.{rules}
use Rattle.handover.proofs.Given.{begins_holds, not_given, all_given}
use Rattle.handover.proofs.giving.give.Goals as goal

pub returns-then-not-judge : goal.returns-then-not-judge
returns-then-not-judge c = search (rules, not_given)

pub give_values-requires : goal.give_values-requires
give_values-requires c = (search rules, search rules, search (rules, begins_holds))

pub returns : goal.returns
returns c = search (rules, all_given)
