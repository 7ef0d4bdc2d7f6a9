-- By the store's length: the laws `touch_none` and `touch_some` of ByKind.
use Rattle.tally.proofs.ByKind.{touch_none, touch_some}
use borrow.Author.Rules.{rules}
use Rattle.tally.proofs.slots.touched.Goals as goal

pub returns-then-store-l : goal.returns-then-store-l
returns-then-store-l c = search (rules, touch_none)

pub returns : goal.returns
returns c = search (rules, touch_some)
