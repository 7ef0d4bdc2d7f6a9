-- Rests on `head_put`: three words, one behind the other.
use borrow.Author.Rules.{rules}
use Rattle.handover.proofs.Taken.{head_put}
use Rattle.handover.proofs.head.put_head.Goals as goal

pub returns : goal.returns
returns c = search (rules, head_put)
