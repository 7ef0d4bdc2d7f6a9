-- By the target, then by the lent buffers (`run-target-..`).
use Rattle.admission.proofs.Leaving.{left_with}
use Rattle.admission.proofs.Targets.{held_vcpu, held_fits, held_inside}
use Rattle.run.proofs.Runs.{run_target_refused, run_target_lent, run_target_found}
use borrow.Author.Rules.{rules}
use Rattle.run.proofs.run_target_of.Goals as goal

pub judge_lent-requires : goal.judge_lent-requires
judge_lent-requires c = search (rules, held_vcpu, c.in_ok-base.was)

pub overflow_add-base : goal.overflow_add-base
overflow_add-base c = search (rules, held_fits, c.in_ok-base.was)

pub get64-size-requires : goal.get64-size-requires
get64-size-requires c = search (rules, held_inside, c.in_ok-base.was)

pub returns-in_err-base : goal.returns-in_err-base
returns-in_err-base c = rw (left_with _ _ c.from_residual.ensures.1) (search (rules, run_target_refused, c.in_err-base.was))

pub returns-in_err-judge_lent : goal.returns-in_err-judge_lent
returns-in_err-judge_lent c = rw (left_with _ _ c.from_residual-in_err-judge_lent.ensures.1) (search (rules, run_target_lent, c.in_ok-base.was, c.in_err-judge_lent.was))

pub returns : goal.returns
returns c = search (rules, run_target_found, c.in_ok-base.was, c.in_ok-judge_lent.was)
