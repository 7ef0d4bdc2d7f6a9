-- Rests on `wrote_on`: one part behind another.
use borrow.Author.Rules.{rules}
use Rattle.handover.proofs.Places.{part_a, part_b}
use Rattle.handover.proofs.Taken.{room_first, room_less, room_on, wrote_on}
use Rattle.handover.proofs.taking.take_first.Goals as goal

pub take_part-run-requires : goal.take_part-run-requires
take_part-run-requires c = (part_a, search rules, search (rules, room_first, room_less 0 2 48))

pub take_part-requires : goal.take_part-requires
take_part-requires c = (part_b, search rules, search (rules, room_first, room_on 0 2))

pub returns : goal.returns
returns c = search (rules, wrote_on 0 2 46)
