-- What the call left, as its three numbers.
use Rattle.adderknot.proofs.Told.{told_filled}
use borrow.Author.Rules.{rules}
use Rattle.adderknot.proofs.get_elements.Goals as goal

pub returns : goal.returns
returns c = search (rules, told_filled)
