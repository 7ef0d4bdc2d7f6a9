-- Rests on `second_shown`: the bits of a big-endian number are the buffer's.
use borrow.Author.Rules.{rules}
use Rattle.handover.proofs.Given.{second_shown}
use Rattle.handover.proofs.head.presence_second.Goals as goal

pub returns : goal.returns
returns c = search (rules, second_shown, c.type_inv.b)
