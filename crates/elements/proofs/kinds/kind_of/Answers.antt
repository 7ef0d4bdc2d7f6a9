-- What a scan of the ranges tells is what the table tells (`kind_guest`, `kind_thread`). Assumes nothing.
use Rattle.elements.proofs.Told.{kind_nop, kind_guest, kind_thread}
use borrow.Author.Rules.{rules}
use Rattle.elements.proofs.kinds.kind_of.Goals as goal

pub returns-then-id-eq0 : goal.returns-then-id-eq0
returns-then-id-eq0 c = search (rules, kind_nop)

pub returns-then-id-row_at : goal.returns-then-id-row_at
returns-then-id-row_at c = search (rules, kind_guest)

pub returns : goal.returns
returns c = search (rules, kind_thread)
