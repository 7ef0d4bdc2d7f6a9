-- Rests on `head_put`.
use Rattle.records.proofs.Packed.{head_put}
use borrow.Author.Rules.{rules}
use Rattle.records.proofs.writing.put_head.Goals as goal

pub returns : goal.returns
returns c = search (rules, head_put)
