-- What the call left, as its three numbers.
use Rattle.answer.specs.declared.Call.TheVariants.{SetCapabilities}
use Rattle.adderknot.proofs.Told.{told_all}
use Rattle.adderknot.proofs.adk_set_capabilities.Goals as goal

pub returns : goal.returns
returns c = told_all SetCapabilities _ _ _ _ c.set_capabilities.ensures c.registers_of.ensures
