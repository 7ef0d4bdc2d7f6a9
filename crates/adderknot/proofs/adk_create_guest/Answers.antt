-- What the call left, as its three numbers.
use Rattle.answer.specs.declared.Call.TheVariants.{CreateGuest}
use Rattle.adderknot.proofs.Told.{told_all}
use Rattle.adderknot.proofs.adk_create_guest.Goals as goal

pub returns : goal.returns
returns c = told_all CreateGuest _ _ _ _ c.create_guest.ensures c.registers_of.ensures
