-- With no flag set, the tests of a target are 1, 3, 4 and 16 (`output-..` of Tops).
use Rattle.judging.proofs.Tops.{output_refused, output_judged, target_room}
use borrow.Author.Rules.{rules}
use Rattle.judging.proofs.judge_output.Goals as goal

pub judge_at-requires : goal.judge_at-requires
judge_at-requires c = search (rules, target_room)

pub returns-in-Err : goal.returns-in-Err
returns-in-Err c = search (rules, output_refused)

pub returns-in-Ok-judge_at : goal.returns-in-Ok-judge_at
returns-in-Ok-judge_at c = output_judged _ _ _ _ _ _ _ c.target_of.ensures.value _ _ _ c.in-Ok.is c.in-Ok-judge_at.ensures c.success.ensures

pub returns-in-Err-judge_at : goal.returns-in-Err-judge_at
returns-in-Err-judge_at c = output_judged _ _ _ _ _ _ _ c.target_of.ensures.value _ _ _ c.in-Ok.is c.in-Err-judge_at.ensures c.refusal-in-Err-judge_at.ensures
