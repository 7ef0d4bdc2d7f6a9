-- Each list has its clause of `offers`. Assumes nothing.
use borrow.Author.Rules.{rules}
use Rattle.elements.specs.Later.{offers}
use Rattle.elements.proofs.lists.is_offered.Goals as goal

pub returns-in-Full : goal.returns-in-Full
unfolding offers
returns-in-Full c = search rules

pub returns-in-Power9 : goal.returns-in-Power9
unfolding offers
returns-in-Power9 c = search rules
