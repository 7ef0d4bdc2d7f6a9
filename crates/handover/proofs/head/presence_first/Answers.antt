-- Rests on `first_shown`: the bits of a big-endian number are the buffer's.
use borrow.Author.Rules.{rules}
use Rattle.handover.proofs.Given.{first_shown}
use Rattle.handover.proofs.head.presence_first.Goals as goal

pub returns : goal.returns
returns c = search (rules, first_shown, c.type_inv.b)
