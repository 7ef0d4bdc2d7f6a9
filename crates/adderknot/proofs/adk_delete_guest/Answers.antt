-- What the call left, as its three numbers.
use Rattle.answer.specs.declared.Call.TheVariants.{DeleteGuest}
use Rattle.adderknot.proofs.Told.{told_all}
use Rattle.adderknot.proofs.adk_delete_guest.Goals as goal

pub returns : goal.returns
returns c = told_all DeleteGuest _ _ _ _ c.delete_guest.ensures c.registers_of.ensures
