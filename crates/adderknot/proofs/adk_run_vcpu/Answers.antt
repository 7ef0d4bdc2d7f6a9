-- What the run left, as its three numbers.
use Rattle.answer.specs.declared.Call.TheVariants.{RunVcpu}
use Rattle.adderknot.proofs.Told.{told_filled}
use Rattle.adderknot.proofs.adk_run_vcpu.Goals as goal

pub returns : goal.returns
returns c = told_filled RunVcpu _ _ _ _ _ c.run_vcpu.ensures c.registers_of.ensures
