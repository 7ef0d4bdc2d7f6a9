-- Rests on `present_run` and `absent_run`: what one value adds.
use borrow.Author.Rules.{rules}
use Rattle.handover.proofs.Runs.{absent_run, absent_kept, present_run, present_kept}
use Rattle.handover.proofs.taking.take_one.Goals as goal

pub returns-then-is_zero : goal.returns-then-is_zero
returns-then-is_zero c = (search (rules, absent_run), search (rules, absent_kept))

pub returns : goal.returns
returns c = (search (rules, present_run), search (rules, present_kept))
