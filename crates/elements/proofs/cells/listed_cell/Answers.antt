-- The element of the number, if there is one.
use Rattle.elements.proofs.CellLaws.{cell_table, cell_past}
use borrow.Author.Rules.{rules}
use Rattle.elements.proofs.cells.listed_cell.Goals as goal

pub returns-then-number-ge170 : goal.returns-then-number-ge170
returns-then-number-ge170 c = search (rules, cell_past)

pub returns : goal.returns
returns c = search (rules, cell_table)
