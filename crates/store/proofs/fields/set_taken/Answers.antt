use borrow.Author.Rules.{rules}
use Rattle.store.proofs.Readings.{taken_inside}
use Rattle.store.proofs.Writes.{mark_put}
use Rattle.store.proofs.fields.set_taken.Goals as goal

pub set_bit-requires : goal.set_bit-requires
set_bit-requires c = search (rules, taken_inside)

pub returns : goal.returns
returns c = search (rules, mark_put)
