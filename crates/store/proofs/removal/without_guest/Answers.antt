-- The words, then the live bit: `deleted`.
use Rattle.store.proofs.Writes.{deleted}
use borrow.Author.Rules.{rules}
use Rattle.store.proofs.removal.without_guest.Goals as goal

pub returns : goal.returns
returns c = search (rules, deleted)
