-- What the call left, as its three numbers.
use Rattle.answer.specs.declared.Call.TheVariants.{FreshStore}
use Rattle.adderknot.proofs.Told.{told_all}
use Rattle.adderknot.proofs.adk_fresh_store.Goals as goal

pub returns : goal.returns
returns c = told_all FreshStore _ _ _ _ c.fresh_store.ensures c.registers_of.ensures
