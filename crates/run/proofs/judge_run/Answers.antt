-- By the target, then by the contents (`run-..`).
use Rattle.admission.proofs.Leaving.{left_with}
use Rattle.store.proofs.Sizes.{layout_sound}
use Rattle.run.proofs.Runs.{run_found_lends, run_found_long, run_found_low, run_found_high, run_found_part, run_refused, run_content, run_slot}
use borrow.Author.Rules.{rules}
use Rattle.run.proofs.judge_run.Goals as goal

pub first_bytes-requires : goal.first_bytes-requires
first_bytes-requires c = search (rules, run_found_lends, layout_sound, c.in_ok-target.was)

pub judge_content-requires : goal.judge_content-requires
judge_content-requires c = (
  search (rules, run_found_long, layout_sound, c.in_ok-target.was),
  search (rules, run_found_low, layout_sound, c.in_ok-target.was),
  search (rules, run_found_high, layout_sound, c.in_ok-target.was),
  search (rules, run_found_part, layout_sound, c.in_ok-target.was),
)

pub returns-in_err-target : goal.returns-in_err-target
returns-in_err-target c = rw (left_with _ _ c.from_residual.ensures.1) (search (rules, run_refused, c.in_err-target.was))

pub returns-in_err-judge_content : goal.returns-in_err-judge_content
returns-in_err-judge_content c = rw (left_with _ _ c.from_residual-in_err-judge_content.ensures.1) (search (rules, run_content, c.in_ok-target.was, c.in_err-judge_content.was))

pub returns : goal.returns
returns c = search (rules, run_slot, c.in_ok-target.was, c.in_ok-judge_content.was)
