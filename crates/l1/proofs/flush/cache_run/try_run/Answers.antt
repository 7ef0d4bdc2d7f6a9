-- By how far the tests came (`run-..` of Running).
use Rattle.admission.proofs.Leaving.{left_with}
use Rattle.l1.proofs.Running.{run_malformed, run_full, run_refused, run_sendable, run_sent}
use borrow.Author.Rules.{rules}
use mathlib.Core.Bool.{not}
use mathlib.Core.Path.{ap}
use Rattle.l1.proofs.flush.cache_run.try_run.Goals as goal

pub returns-then-not-good_marks : goal.returns-then-not-good_marks
returns-then-not-good_marks c = search (rules, run_malformed)

pub judge_cached-requires : goal.judge_cached-requires
judge_cached-requires c = search (rules, run_full)

pub send-requires : goal.send-requires
send-requires c = run_sendable _ _ _ c.args.input.now c.args.output.now _ _ _ _ _ _ c.told-values c.told-marks _ c.offer_of.ensures _ c.good_marks.ensures (ap not c.if-not-good_marks.false) _ c.judge_cached.ensures _ c.in_ok-target.was

pub returns-in_err-target : goal.returns-in_err-target
returns-in_err-target c =
    rw (left_with _ _ c.from_residual.ensures.1)
    (run_refused _ _ _ _ _ _ _ _ _ _ _ c.told-values c.told-marks _ c.offer_of.ensures _ c.good_marks.ensures (ap not c.if-not-good_marks.false) _ c.judge_cached.ensures _ c.in_err-target.was)

pub returns : goal.returns
returns c = run_sent _ _ _ c.args.input.now c.args.output.now _ _ _ _ _ _ c.told-values c.told-marks _ c.offer_of.ensures _ c.good_marks.ensures (ap not c.if-not-good_marks.false) _ c.judge_cached.ensures _ c.in_ok-target.was _ c.send.ensures
