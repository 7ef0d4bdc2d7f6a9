-- The number stands in the header: `caps_read`.
use Rattle.store.proofs.Readings.{caps_read}
use borrow.Author.Rules.{rules}
use Rattle.store.proofs.header.capabilities_of.Goals as goal

pub returns : goal.returns
returns c = search (rules, caps_read)
