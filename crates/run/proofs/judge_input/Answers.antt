-- By the walk over the input (`input-..`).
use Rattle.admission.proofs.Leaving.{left_with}
use Rattle.run.proofs.Runs.{input_bad, input_done}
use borrow.Author.Rules.{rules}
use Rattle.run.proofs.judge_input.Goals as goal

pub returns-in_err-first_bad : goal.returns-in_err-first_bad
returns-in_err-first_bad c = rw (left_with _ _ c.from_residual.ensures.1) (search (rules, input_bad, c.in_err-first_bad.was))

pub returns : goal.returns
returns c = search (rules, input_done, c.in_ok-first_bad.was)
