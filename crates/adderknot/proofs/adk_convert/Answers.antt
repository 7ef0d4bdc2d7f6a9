-- What the call left, as its three numbers.
use Rattle.answer.specs.declared.Call.TheVariants.{Convert}
use Rattle.adderknot.proofs.Told.{told_all}
use Rattle.adderknot.proofs.adk_convert.Goals as goal

pub returns : goal.returns
returns c = told_all Convert _ _ _ _ c.convert.ensures c.registers_of.ensures
