-- Rests on `gave_on`: one part behind another.
use borrow.Author.Rules.{rules}
use Rattle.handover.proofs.Places.{part_f}
use Rattle.handover.proofs.Presence.{presence_high, presence_low}
use Rattle.handover.proofs.Given.{holds_some, holds_rest, gave_on}
use Rattle.handover.proofs.giving.give_third.Goals as goal

pub give_part-at-requires : goal.give_part-at-requires
give_part-at-requires c = (part_f, search rules, search (rules, presence_high 54 4), search rules, search (rules, holds_some 112 54 4))

pub give_last-requires : goal.give_last-requires
give_last-requires c = (search rules, search rules, search (rules, presence_low 54 4), search (rules, holds_rest 112 54 4))

pub returns : goal.returns
returns c = search (rules, gave_on 112 54 4)
