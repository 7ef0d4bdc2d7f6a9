-- The bit is set exactly if setting it changes nothing: the laws `note-..` of Noted.
use Rattle.store.proofs.Noted.{note_met, note_same, note_new, note_set}
use borrow.Author.Rules.{rules}
use Rattle.store.proofs.filter.note.Goals as goal

pub returns-then-y-x : goal.returns-then-y-x
returns-then-y-x c = (search (rules, note_met), search (rules, note_same))

pub returns : goal.returns
returns c = (search (rules, note_new), search (rules, note_set))
