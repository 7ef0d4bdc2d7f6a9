-- Rests on `wrote_on`: one part behind another.
use borrow.Author.Rules.{rules}
use Rattle.handover.proofs.Places.{part_g, part_h, part_i}
use Rattle.handover.proofs.Taken.{room_less, room_on, wrote_on}
use Rattle.handover.proofs.taking.take_last.Goals as goal

pub take_part-run-requires : goal.take_part-run-requires
take_part-run-requires c = (part_g, search rules, search (rules, room_less 166 167 170))

pub take_part-run-requires-2 : goal.take_part-run-requires-2
take_part-run-requires-2 c = (part_h, search rules, search (rules, room_on 166 1, room_less 167 169 170))

pub take_part-requires : goal.take_part-requires
take_part-requires c = (part_i, search rules, search (rules, room_on 166 1, room_on 167 2, c.take_part-run-2.ensures, c.take_part-run.ensures))

pub returns : goal.returns
returns c = search (rules, wrote_on 166 1 2, wrote_on 166 3 1)
