-- By the kind: the laws `as-..` of Moving.
use Rattle.transfer.proofs.Moving.{moves_fits, as_other, as_listed}
use borrow.Author.Rules.{rules}
use Rattle.transfer.proofs.put_as.Goals as goal

pub put_from-requires : goal.put_from-requires
put_from-requires c = (search (rules, moves_fits), search rules)

pub returns-in-Listed : goal.returns-in-Listed
returns-in-Listed c = search (rules, as_listed)

pub returns-in_default : goal.returns-in_default
returns-in_default c = as_other _ _ _ _ c.in_default.not-Listed
