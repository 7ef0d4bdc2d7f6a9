-- By the length.
use Rattle.store.proofs.Sizes.{of_large, of_small}
use borrow.Author.Rules.{rules}
use Rattle.store.proofs.layout_of.Goals as goal

pub returns-then-s-eq119924 : goal.returns-then-s-eq119924
returns-then-s-eq119924 c = search (rules, of_large)

pub returns : goal.returns
returns c = search (rules, of_small)
