-- By the least significant bit: the laws `after-..` of ByAnswer.
use Rattle.tally.proofs.ByAnswer.{after_touched, after_other}
use borrow.Author.Rules.{rules}
use Rattle.tally.proofs.counters.after.Goals as goal

pub returns-then-left-eq1 : goal.returns-then-left-eq1
returns-then-left-eq1 c = search (rules, after_touched)

pub returns : goal.returns
returns c = search (rules, after_other)
