-- The mark, then the word: `slot_put`.
use Rattle.store.proofs.Writes.{slot_put}
use borrow.Author.Rules.{rules}
use Rattle.store.proofs.removal.empty_slot.Goals as goal

pub returns : goal.returns
returns c = search (rules, slot_put)
