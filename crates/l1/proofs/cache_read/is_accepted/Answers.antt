-- By the registers that are told.
use Rattle.l1.proofs.Reading.{accepted_as}
use borrow.Author.Rules.{rules}
use Rattle.l1.proofs.cache_read.is_accepted.Goals as goal

pub returns : goal.returns
returns c = search (rules, accepted_as)
