-- Rests on `walk_on_lem` and `walk_off`: one part behind another.
use borrow.Author.Rules.{rules}
use Rattle.handover.proofs.Places.{part_f}
use Rattle.handover.proofs.Presence.{presence_high, presence_low}
use Rattle.handover.proofs.Given.{walk_within, walk_on_lem, walk_off}
use Rattle.handover.proofs.judging.judge_third.Goals as goal

pub judge_part-requires : goal.judge_part-requires
judge_part-requires c = (part_f, search (rules, presence_high 54 4), search rules)

pub returns-in_err-at : goal.returns-in_err-at
returns-in_err-at c = rw c.from_residual.ensures (walk_off 112 54 4 _ _ c.in_err-at.ensures)

pub judge_last-requires : goal.judge_last-requires
judge_last-requires c = (search (rules, presence_low 54 4), walk_within 112 54 _ _ _ c.in_ok-at.ensures c.requires.1)

pub returns : goal.returns
returns c = walk_on_lem 112 54 4 _ _ _ _ c.in_ok-at.ensures c.judge_last.ensures
