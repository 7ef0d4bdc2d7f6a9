-- What the call left, as its three numbers.
use Rattle.adderknot.proofs.Told.{told_written}
use borrow.Author.Rules.{rules}
use Rattle.adderknot.proofs.adk_join.Goals as goal

pub returns : goal.returns
returns c = search (rules, told_written)
