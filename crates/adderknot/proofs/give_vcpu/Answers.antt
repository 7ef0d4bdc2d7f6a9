-- What the call left, as its three numbers.
use Rattle.adderknot.proofs.Told.{told_all}
use borrow.Author.Rules.{rules}
use Rattle.adderknot.proofs.give_vcpu.Goals as goal

pub returns : goal.returns
returns c = search (rules, told_all)
