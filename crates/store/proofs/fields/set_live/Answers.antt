use borrow.Author.Rules.{rules}
use Rattle.store.proofs.Readings.{live_inside}
use Rattle.store.proofs.Writes.{live_put}
use Rattle.store.proofs.fields.set_live.Goals as goal

pub set_bit-requires : goal.set_bit-requires
set_bit-requires c = search (rules, live_inside)

pub returns : goal.returns
returns c = search (rules, live_put)
