-- By the length.
use Rattle.store.proofs.Tests.{head_long, head_told}
use borrow.Author.Rules.{rules}
use Rattle.store.proofs.formed.head_formed.Goals as goal

pub returns-else-s-l : goal.returns-else-s-l
returns-else-s-l c = search (rules, head_long)

pub returns-then-s-l : goal.returns-then-s-l
returns-then-s-l c = search (rules, head_told)
