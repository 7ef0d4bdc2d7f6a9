-- One byte holds the mark: `taken_read`.
use borrow.Author.Rules.{rules}
use Rattle.store.proofs.Readings.{taken_read}
use Rattle.store.proofs.header.is_taken.Goals as goal

pub returns : goal.returns
returns c = search (rules, taken_read)
