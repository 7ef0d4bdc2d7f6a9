-- Rests on `gave_on`: one part behind another.
use borrow.Author.Rules.{rules}
use Rattle.handover.proofs.Places.{part_a, part_b}
use Rattle.handover.proofs.Presence.{presence_high, presence_low}
use Rattle.handover.proofs.Given.{holds_some, holds_rest, gave_on}
use Rattle.handover.proofs.giving.give_first.Goals as goal

pub give_part-at-requires : goal.give_part-at-requires
give_part-at-requires c = (part_a, search rules, search (rules, presence_high 2 46), search rules, search (rules, holds_some 0 2 46))

pub give_part-requires : goal.give_part-requires
give_part-requires c = (part_b, search rules, search (rules, presence_low 2 46), search rules, search (rules, holds_rest 0 2 46))

pub returns : goal.returns
returns c = search (rules, gave_on 0 2 46)
