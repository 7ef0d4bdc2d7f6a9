-- Rests on `gave_on`: one word behind another.
use borrow.Author.Rules.{rules}
use Rattle.handover.proofs.Given.{holds_some, holds_rest, gave_on}
use Rattle.handover.proofs.giving.give_values.Goals as goal

pub give_first-at-requires : goal.give_first-at-requires
give_first-at-requires c = (search rules, search rules, search rules, search (rules, holds_some 0 48 122))

pub give_second-at-requires : goal.give_second-at-requires
give_second-at-requires c = (search rules, search rules, search rules, search (rules, holds_rest 0 48 122, holds_some 48 64 58))

pub give_third-requires : goal.give_third-requires
give_third-requires c = (search rules, search rules, search rules, holds_rest 48 64 58 _ _ _ _ _ _ (holds_rest 0 48 122 _ _ _ _ _ _ c.requires.2 c.give_first-at.ensures) c.give_second-at.ensures)

pub returns : goal.returns
returns c = search (rules, gave_on 0 48 122, gave_on 48 64 58, holds_rest 0 48 122)
