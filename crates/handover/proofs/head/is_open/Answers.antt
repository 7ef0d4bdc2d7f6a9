-- Rests on `open_right` and `open_wrong`: an id of 11 bits leaves no other way to make the number.
use borrow.Author.Rules.{rules}
use Rattle.handover.proofs.Given.{open_wrong, open_right}
use Rattle.handover.proofs.head.is_open.Goals as goal

pub returns-then-get64-vcpu : goal.returns-then-get64-vcpu
returns-then-get64-vcpu c = search (rules, open_wrong, c.type_inv.b)

pub returns : goal.returns
returns c = search (rules, open_right, c.type_inv.b)
