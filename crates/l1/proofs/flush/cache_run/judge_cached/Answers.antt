-- By how far the tests came (`cached-..` of Running).
use Rattle.admission.proofs.Leaving.{left_with}
use Rattle.l1.proofs.Running.{cached_refused, cached_content, cached_slot}
use Rattle.store.proofs.Sizes.{layout_sound}
use Rattle.run.proofs.Runs.{run_found_long, run_found_low, run_found_high}
use borrow.Author.Rules.{rules}
use Rattle.l1.proofs.flush.cache_run.judge_cached.Goals as goal

pub judge_sent-requires : goal.judge_sent-requires
judge_sent-requires c = (
  search (rules, run_found_long, layout_sound, c.in_ok-target.was),
  search (rules, run_found_low, layout_sound, c.in_ok-target.was),
  search (rules, run_found_high, layout_sound, c.in_ok-target.was),
  search rules,
)

pub returns-in_err-target : goal.returns-in_err-target
returns-in_err-target c = rw (left_with _ _ c.from_residual.ensures.1) (search (rules, cached_refused, c.in_err-target.was))

pub returns-in_err-judge_sent : goal.returns-in_err-judge_sent
returns-in_err-judge_sent c = rw (left_with _ _ c.from_residual-in_err-judge_sent.ensures.1) (search (rules, cached_content, c.in_ok-target.was, c.in_err-judge_sent.was))

pub returns : goal.returns
returns c = search (rules, cached_slot, c.in_ok-target.was, c.in_ok-judge_sent.was)
