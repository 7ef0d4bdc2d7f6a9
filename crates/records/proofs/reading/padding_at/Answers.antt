-- Rests on `padding_is`.
use Rattle.records.proofs.Fields.{padding_is}
use borrow.Author.Rules.{rules}
use Rattle.records.proofs.reading.padding_at.Goals as goal

pub returns : goal.returns
returns c = search (rules, padding_is, c.type_inv.b)
