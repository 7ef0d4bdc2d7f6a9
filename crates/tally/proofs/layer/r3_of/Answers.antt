use Rattle.tally.proofs.ByAnswer.{r3_is}
use borrow.Author.Rules.{rules}
use Rattle.tally.proofs.layer.r3_of.Goals as goal

pub returns : goal.returns
returns c = search (rules, r3_is)
