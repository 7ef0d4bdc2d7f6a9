-- Each return is a law of `head_good`.
use Rattle.store.proofs.Readings.{head_other, head_zeros}
use borrow.Author.Rules.{rules}
use Rattle.store.proofs.formed.head_good.Goals as goal

pub returns-then-get64-ne0 : goal.returns-then-get64-ne0
returns-then-get64-ne0 c = search (rules, head_other)

pub returns : goal.returns
returns c = search (rules, head_zeros)
