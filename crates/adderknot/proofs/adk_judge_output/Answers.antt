-- What was found, as its three numbers.
use Rattle.adderknot.proofs.Told.{told_judged}
use Rattle.adderknot.proofs.adk_judge_output.Goals as goal

pub returns : goal.returns
returns c = told_judged _ _ _ c.judge_output.ensures c.registers_of.ensures
