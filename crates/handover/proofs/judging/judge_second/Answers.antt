-- Rests on `walk_on_lem` and `walk_off`: one part behind another.
use borrow.Author.Rules.{rules}
use Rattle.handover.proofs.Places.{part_c, part_d, part_e}
use Rattle.handover.proofs.Presence.{presence_high, presence_low, presence_mid}
use Rattle.handover.proofs.Given.{walk_within, walk_on_lem, walk_off}
use Rattle.handover.proofs.judging.judge_second.Goals as goal

pub judge_part-requires : goal.judge_part-requires
judge_part-requires c = (part_c, search (rules, presence_high 39 25), search rules)

pub returns-in_err-at : goal.returns-in_err-at
returns-in_err-at c = rw c.from_residual.ensures (walk_off 48 39 25 _ _ c.in_err-at.ensures)

pub judge_part-requires-2 : goal.judge_part-requires-2
judge_part-requires-2 c = (part_d, search (rules, presence_mid 39 15 10), walk_within 48 39 _ _ _ c.in_ok-at.ensures c.requires.1)

pub returns-in_err-at-2 : goal.returns-in_err-at-2
returns-in_err-at-2 c = rw c.from_residual-in_err-at-2.ensures (walk_on_lem 48 39 25 _ _ _ _ c.in_ok-at.ensures (walk_off 87 15 10 _ _ c.in_err-at-2.ensures))

pub judge_part-requires-3 : goal.judge_part-requires-3
judge_part-requires-3 c = (part_e, search (rules, presence_low 54 10), walk_within 87 15 _ _ _ c.in_ok-at-2.ensures (walk_within 48 39 _ _ _ c.in_ok-at.ensures c.requires.1))

pub returns : goal.returns
returns c = walk_on_lem 48 39 25 _ _ _ _ c.in_ok-at.ensures (walk_on_lem 87 15 10 _ _ _ _ c.in_ok-at-2.ensures c.judge_part-3.ensures)
