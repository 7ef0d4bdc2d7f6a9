-- What the call left, as its three numbers.
use Rattle.answer.specs.declared.Call.TheVariants.{CreateVcpu}
use Rattle.adderknot.proofs.Told.{told_all}
use Rattle.adderknot.proofs.adk_create_vcpu.Goals as goal

pub returns : goal.returns
returns c = told_all CreateVcpu _ _ _ _ c.create_vcpu.ensures c.registers_of.ensures
