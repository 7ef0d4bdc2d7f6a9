-- Rests on `field_put`: four bytes with the field in them.
use Rattle.octets.proofs.Fields.{field_put}
use borrow.Author.Rules.{rules}
use Rattle.octets.proofs.writing.put_bits.Goals as goal

pub returns : goal.returns
returns c = search (rules, field_put)
