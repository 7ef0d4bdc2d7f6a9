-- By R3: the laws `run-..` of ByAnswer.
use Rattle.tally.proofs.ByAnswer.{run_refused, run_accepted}
use borrow.Author.Rules.{rules}
use Rattle.tally.proofs.changes.run_change.Goals as goal

pub returns-then-r3-ne0 : goal.returns-then-r3-ne0
returns-then-r3-ne0 c = search (rules, run_refused)

pub returns : goal.returns
returns c = search (rules, run_accepted)
