-- By R3: the laws `success-..` of ByAnswer.
use borrow.Author.Rules.{rules}
use Rattle.tally.proofs.ByAnswer.{success_is, success_not}
use Rattle.tally.proofs.changes.renewal.Goals as goal

pub returns-then-r3-eq0 : goal.returns-then-r3-eq0
returns-then-r3-eq0 c = search (rules, success_is)

pub returns : goal.returns
returns c = search (rules, success_not)
