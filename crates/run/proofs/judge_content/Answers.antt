-- By the input, then by exit and effect (`content-..`).
use Rattle.admission.proofs.Leaving.{left_with}
use Rattle.run.proofs.Runs.{content_bad, content_exit}
use borrow.Author.Rules.{rules}
use Rattle.run.proofs.judge_content.Goals as goal

pub returns-in_err-judge_input : goal.returns-in_err-judge_input
returns-in_err-judge_input c = rw (left_with _ _ c.from_residual.ensures.1) (search (rules, content_bad, c.in_err-judge_input.was))

pub returns : goal.returns
returns c = search (rules, content_exit, c.in_ok-judge_input.was)
