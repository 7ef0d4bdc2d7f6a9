-- Rests on `gave_on`: one part behind another.
use borrow.Author.Rules.{rules}
use Rattle.handover.proofs.Places.{part_g, part_h, part_i}
use Rattle.handover.proofs.Presence.{presence_high, presence_low, presence_mid}
use Rattle.handover.proofs.Given.{holds_some, holds_rest, gave_on}
use Rattle.handover.proofs.giving.give_last.Goals as goal

pub give_part-at-requires : goal.give_part-at-requires
give_part-at-requires c = (part_g, search rules, search (rules, presence_high 1 3), search rules, search (rules, holds_some 166 1 3))

pub give_part-at-requires-2 : goal.give_part-at-requires-2
give_part-at-requires-2 c = (part_h, search rules, search (rules, presence_mid 1 2 1), search rules, search (rules, holds_rest 166 1 3, holds_some 167 2 1))

pub give_part-requires : goal.give_part-requires
give_part-requires c = (part_i, search rules, search (rules, presence_low 3 1), search rules, holds_rest 167 2 1 _ _ _ _ _ _ (holds_rest 166 1 3 _ _ _ _ _ _ c.requires.3 c.give_part-at.ensures) c.give_part-at-2.ensures)

pub returns : goal.returns
returns c = search (rules, gave_on 166 1 3, gave_on 167 2 1, holds_rest 166 1 3)
