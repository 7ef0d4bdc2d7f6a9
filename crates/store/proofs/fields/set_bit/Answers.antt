-- One byte holds the bit: `bit_put`.
use borrow.Author.Rules.{rules}
use Rattle.store.proofs.Writes.{bit_put}
use Rattle.store.proofs.fields.set_bit.Goals as goal

pub returns : goal.returns
returns c = search (rules, bit_put)
