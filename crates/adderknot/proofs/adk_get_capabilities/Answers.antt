-- What the call left, as its three numbers.
use Rattle.answer.specs.declared.Call.TheVariants.{GetCapabilities}
use Rattle.adderknot.proofs.Told.{told_numbers}
use Rattle.adderknot.proofs.adk_get_capabilities.Goals as goal

pub returns : goal.returns
returns c = told_numbers GetCapabilities _ _ _ _ c.get_capabilities.ensures c.registers_of.ensures
