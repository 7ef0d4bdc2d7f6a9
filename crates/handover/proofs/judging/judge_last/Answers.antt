-- Rests on `walk_on_lem` and `walk_off`: one part behind another.
use borrow.Author.Rules.{rules}
use Rattle.handover.proofs.Places.{part_g, part_h, part_i}
use Rattle.handover.proofs.Presence.{presence_high, presence_low, presence_mid}
use Rattle.handover.proofs.Given.{walk_within, walk_on_lem, walk_off}
use Rattle.handover.proofs.judging.judge_last.Goals as goal

pub judge_part-requires : goal.judge_part-requires
judge_part-requires c = (part_g, search (rules, presence_high 1 3), search rules)

pub returns-in_err-at : goal.returns-in_err-at
returns-in_err-at c = rw c.from_residual.ensures (walk_off 166 1 3 _ _ c.in_err-at.ensures)

pub judge_part-requires-2 : goal.judge_part-requires-2
judge_part-requires-2 c = (part_h, search (rules, presence_mid 1 2 1), walk_within 166 1 _ _ _ c.in_ok-at.ensures c.requires.1)

pub returns-in_err-at-2 : goal.returns-in_err-at-2
returns-in_err-at-2 c = rw c.from_residual-in_err-at-2.ensures (walk_on_lem 166 1 3 _ _ _ _ c.in_ok-at.ensures (walk_off 167 2 1 _ _ c.in_err-at-2.ensures))

pub judge_part-requires-3 : goal.judge_part-requires-3
judge_part-requires-3 c = (part_i, search (rules, presence_low 3 1), walk_within 167 2 _ _ _ c.in_ok-at-2.ensures (walk_within 166 1 _ _ _ c.in_ok-at.ensures c.requires.1))

pub returns : goal.returns
returns c = walk_on_lem 166 1 3 _ _ _ _ c.in_ok-at.ensures (walk_on_lem 167 2 1 _ _ _ _ c.in_ok-at-2.ensures c.judge_part-3.ensures)
