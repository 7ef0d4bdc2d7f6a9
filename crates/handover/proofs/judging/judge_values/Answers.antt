-- Rests on `walk_on_lem` and `walk_off`: one word behind another.
use borrow.Author.Rules.{rules}
use Rattle.handover.proofs.Given.{walk_within, walk_on_lem, walk_off}
use Rattle.handover.proofs.judging.judge_values.Goals as goal

pub returns-in_err-at : goal.returns-in_err-at
returns-in_err-at c = rw c.from_residual.ensures (walk_off 0 48 122 _ _ c.in_err-at.ensures)

pub judge_second-requires : goal.judge_second-requires
judge_second-requires c = (search rules, walk_within 0 48 _ _ _ c.in_ok-at.ensures c.requires)

pub returns-in_err-at-2 : goal.returns-in_err-at-2
returns-in_err-at-2 c = rw c.from_residual-in_err-at-2.ensures (walk_on_lem 0 48 122 _ _ _ _ c.in_ok-at.ensures (walk_off 48 64 58 _ _ c.in_err-at-2.ensures))

pub judge_third-requires : goal.judge_third-requires
judge_third-requires c = (search rules, walk_within 48 64 _ _ _ c.in_ok-at-2.ensures (walk_within 0 48 _ _ _ c.in_ok-at.ensures c.requires))

pub returns : goal.returns
returns c = walk_on_lem 0 48 122 _ _ _ _ c.in_ok-at.ensures (walk_on_lem 48 64 58 _ _ _ _ c.in_ok-at-2.ensures c.judge_third.ensures)
