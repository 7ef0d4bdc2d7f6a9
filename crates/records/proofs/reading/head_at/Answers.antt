-- Rests on `heads_are`: the fields are digits of the words.
use Rattle.records.proofs.Fields.{heads_are}
use borrow.Author.Rules.{rules}
use Rattle.records.proofs.reading.head_at.Goals as goal

pub returns : goal.returns
returns c = search (rules, heads_are, c.type_inv.b)
