-- A register has the cell that the table gives it.
use Rattle.judging.proofs.Bytewise.{register_found}
use Rattle.judging.proofs.values.cell_of.Goals as goal

pub returns-in-Some : goal.returns-in-Some
returns-in-Some c = register_found _ _ c.in-Some.ensures
