-- What a use permits, with no capability.
use Rattle.l1.proofs.Marking.{allowed_as}
use borrow.Author.Rules.{rules}
use Rattle.l1.proofs.named.allowed.Goals as goal

pub returns : goal.returns
returns c = search (rules, allowed_as)
