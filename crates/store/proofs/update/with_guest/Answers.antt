-- The live bit, then the values: `guest_made`.
use Rattle.store.proofs.Writes.{guest_made}
use borrow.Author.Rules.{rules}
use Rattle.store.proofs.update.with_guest.Goals as goal

pub returns : goal.returns
returns c = search (rules, guest_made)
