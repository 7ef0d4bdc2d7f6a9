-- By what is left up to the greatest value: the laws `plus-..` of ByAnswer.
use Rattle.tally.proofs.ByAnswer.{plus_full, plus_fits}
use borrow.Author.Rules.{rules}
use Rattle.tally.proofs.counters.plus.Goals as goal

pub returns-then-from-k : goal.returns-then-from-k
returns-then-from-k c = search (rules, plus_full)

pub returns : goal.returns
returns c = search (rules, plus_fits)
