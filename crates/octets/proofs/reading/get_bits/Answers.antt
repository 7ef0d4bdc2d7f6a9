-- Rests on `field_read`: what stays after the two shifts is the field.
use Rattle.octets.proofs.Fields.{field_read}
use borrow.Author.Rules.{rules}
use Rattle.octets.proofs.reading.get_bits.Goals as goal

pub returns : goal.returns
returns c = search (rules, field_read)
