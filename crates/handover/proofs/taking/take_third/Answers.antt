-- Rests on `wrote_on`: one part behind another.
use borrow.Author.Rules.{rules}
use Rattle.handover.proofs.Places.{part_f}
use Rattle.handover.proofs.Taken.{room_third, room_less, room_on, wrote_on}
use Rattle.handover.proofs.taking.take_third.Goals as goal

pub take_part-run-requires : goal.take_part-run-requires
take_part-run-requires c = (part_f, search rules, search (rules, room_third, room_less 112 166 170))

pub take_last-requires : goal.take_last-requires
take_last-requires c = (search rules, search (rules, room_third, room_on 112 54))

pub returns : goal.returns
returns c = search (rules, wrote_on 112 54 4)
