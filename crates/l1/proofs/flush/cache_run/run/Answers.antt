-- By the lengths of what is lent.
use Rattle.l1.proofs.Running.{run_short_values, run_short_marks, run_whole}
use borrow.Author.Rules.{rules}
use Rattle.l1.proofs.flush.cache_run.run.Goals as goal

pub returns-in_default : goal.returns-in_default
returns-in_default c = search (rules, run_short_marks)

pub returns-in_default-as_mut_array : goal.returns-in_default-as_mut_array
returns-in_default-as_mut_array c = rw c.in-Some.ensures.cases.same (search (rules, run_short_values))

pub returns : goal.returns
returns c = search (rules, run_whole, c.in-Some.ensures.cases, c.in-Some-as_mut_array.ensures.cases)
