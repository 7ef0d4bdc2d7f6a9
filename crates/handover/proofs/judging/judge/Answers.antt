-- Rests on `judged` and `not_open`.
use mathlib.Core.Path.{◌∙◌}
use Rattle.handover.proofs.Given.{not_open, judged}
use Rattle.handover.proofs.judging.judge.Goals as goal

pub returns-then-is_open : goal.returns-then-is_open
returns-then-is_open c = c.is_some.ensures ∙ judged _ _ _ c.is_open.ensures c.if-is_open.true c.requires.1 _ c.judge_values.ensures

pub returns-else-is_open : goal.returns-else-is_open
returns-else-is_open c = c.if-is_open.false ∙ not_open _ _ _ c.is_open.ensures c.if-is_open.false
