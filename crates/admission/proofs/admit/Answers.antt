-- Each return is a law of `admission`.
use Rattle.admission.proofs.FirstTests.{admit_store, admit_flag, admit_all}
use Rattle.admission.specs.Refusals.{admission}
use borrow.Author.Rules.{rules}
use Rattle.admission.proofs.admit.Goals as goal

pub returns-then-not-well_formed : goal.returns-then-not-well_formed
returns-then-not-well_formed c = search (rules, admit_store)

pub returns-then-bad-ne0 : goal.returns-then-bad-ne0
unfolding admission
returns-then-bad-ne0 c = search (rules, admit_flag)

pub returns : goal.returns
returns c = search (rules, admit_all)
