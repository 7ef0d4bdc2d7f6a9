-- What the call left, as its three numbers.
use Rattle.answer.specs.declared.Call.TheVariants.{GuestClock}
use Rattle.adderknot.proofs.Told.{told_numbers}
use Rattle.adderknot.proofs.adk_guest_clock.Goals as goal

pub returns : goal.returns
returns c = told_numbers GuestClock _ _ _ _ c.guest_clock.ensures c.registers_of.ensures
