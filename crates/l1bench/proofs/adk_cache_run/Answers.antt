-- What the run left, as its three numbers.
use Rattle.l1bench.proofs.Told.{told_ran}
use borrow.Author.Rules.{rules}
use Rattle.l1bench.proofs.adk_cache_run.Goals as goal

pub returns : goal.returns
returns c = search (rules, told_ran)
