-- Rests on `wrote_on`: one part behind another.
use borrow.Author.Rules.{rules}
use Rattle.handover.proofs.Places.{part_c, part_d, part_e}
use Rattle.handover.proofs.Taken.{room_second, room_less, room_on, wrote_on}
use Rattle.handover.proofs.taking.take_second.Goals as goal

pub take_part-run-requires : goal.take_part-run-requires
take_part-run-requires c = (part_c, search rules, search (rules, room_second, room_less 48 87 112))

pub take_part-run-requires-2 : goal.take_part-run-requires-2
take_part-run-requires-2 c = (part_d, search rules, search (rules, room_second, room_on 48 39, room_less 87 102 112))

pub take_part-requires : goal.take_part-requires
take_part-requires c = (part_e, search rules, search (rules, room_second, room_on 48 39, room_on 87 15, c.take_part-run-2.ensures, c.take_part-run.ensures))

pub returns : goal.returns
returns c = search (rules, wrote_on 48 39 15, wrote_on 48 54 10)
