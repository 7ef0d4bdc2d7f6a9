-- By the guest that the word names.
use Rattle.store.proofs.Writes.{drop_not, drop_it}
use borrow.Author.Rules.{rules}
use Rattle.store.proofs.removal.drop_word.Goals as goal

pub returns-then-slot_word-l : goal.returns-then-slot_word-l
returns-then-slot_word-l c = search (rules, drop_not)

pub returns : goal.returns
returns c = search (rules, drop_it)
