-- Rests on `third_shown`: the bits of a big-endian number are the buffer's.
use borrow.Author.Rules.{rules}
use Rattle.handover.proofs.Given.{third_shown}
use Rattle.handover.proofs.head.presence_third.Goals as goal

pub returns : goal.returns
returns c = search (rules, third_shown, c.type_inv.b)
