-- By the kind: the laws `fill-..` of Moving.
use Rattle.transfer.proofs.Moving.{listed_fits, listed_inside, fill_other, fill_as_lem}
use borrow.Author.Rules.{rules}
use Rattle.transfer.proofs.filling.fill_as.Goals as goal

pub fill_from-requires : goal.fill_from-requires
fill_from-requires c = (search (rules, listed_fits), search (rules, listed_inside))

pub returns-in-Listed : goal.returns-in-Listed
returns-in-Listed c = search (rules, fill_as_lem)

pub returns-in_default : goal.returns-in_default
returns-in_default c = fill_other _ _ _ _ _ c.in_default.not-Listed
