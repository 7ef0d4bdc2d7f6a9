-- Rests on `walk_on_lem` and `walk_off`: one part behind another.
use borrow.Author.Rules.{rules}
use Rattle.handover.proofs.Places.{part_a, part_b}
use Rattle.handover.proofs.Presence.{presence_high, presence_low}
use Rattle.handover.proofs.Given.{walk_within, walk_on_lem, walk_off}
use Rattle.handover.proofs.judging.judge_first.Goals as goal

pub judge_part-requires : goal.judge_part-requires
judge_part-requires c = (part_a, search (rules, presence_high 2 46), search rules)

pub returns-in_err-at : goal.returns-in_err-at
returns-in_err-at c = rw c.from_residual.ensures (walk_off 0 2 46 _ _ c.in_err-at.ensures)

pub judge_part-requires-2 : goal.judge_part-requires-2
judge_part-requires-2 c = (part_b, search (rules, presence_low 2 46), walk_within 0 2 _ _ _ c.in_ok-at.ensures c.requires.0)

pub returns : goal.returns
returns c = walk_on_lem 0 2 46 _ _ _ _ c.in_ok-at.ensures c.judge_part-2.ensures
