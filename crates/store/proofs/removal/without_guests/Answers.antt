-- The words, then the live bits: `all_deleted`.
use Rattle.store.proofs.Writes.{all_deleted}
use borrow.Author.Rules.{rules}
use Rattle.store.proofs.removal.without_guests.Goals as goal

pub returns : goal.returns
returns c = search (rules, all_deleted)
