-- What the read left, as its three numbers.
use Rattle.l1bench.proofs.Told.{told_read}
use borrow.Author.Rules.{rules}
use Rattle.l1bench.proofs.adk_cache_read.Goals as goal

pub returns : goal.returns
returns c = search (rules, told_read)
