-- Rests on `gave_on`: one part behind another.
use borrow.Author.Rules.{rules}
use Rattle.handover.proofs.Places.{part_c, part_d, part_e}
use Rattle.handover.proofs.Presence.{presence_high, presence_low, presence_mid}
use Rattle.handover.proofs.Given.{holds_some, holds_rest, gave_on}
use Rattle.handover.proofs.giving.give_second.Goals as goal

pub give_part-at-requires : goal.give_part-at-requires
give_part-at-requires c = (part_c, search rules, search (rules, presence_high 39 25), search rules, search (rules, holds_some 48 39 25))

pub give_part-at-requires-2 : goal.give_part-at-requires-2
give_part-at-requires-2 c = (part_d, search rules, search (rules, presence_mid 39 15 10), search rules, search (rules, holds_rest 48 39 25, holds_some 87 15 10))

pub give_part-requires : goal.give_part-requires
give_part-requires c = (part_e, search rules, search (rules, presence_low 54 10), search rules, holds_rest 87 15 10 _ _ _ _ _ _ (holds_rest 48 39 25 _ _ _ _ _ _ c.requires.3 c.give_part-at.ensures) c.give_part-at-2.ensures)

pub returns : goal.returns
returns c = search (rules, gave_on 48 39 25, gave_on 87 15 10, holds_rest 48 39 25)
