-- What the write left, as its three numbers.
use Rattle.l1bench.proofs.Told.{told_written}
use borrow.Author.Rules.{rules}
use Rattle.l1bench.proofs.adk_cache_write.Goals as goal

pub returns : goal.returns
returns c = search (rules, told_written)
