-- Rests on `bytes_all` and the bounds that follow. Assumes nothing.
use Rattle.elements.proofs.Scans.{bytes_all, bytes_few, bytes_fit}
use borrow.Author.Rules.{rules}
use Rattle.elements.proofs.rows.bytes_of.Goals as goal

pub overflow_mul-result : goal.overflow_mul-result
overflow_mul-result c = search (rules, bytes_fit)

pub returns : goal.returns
returns c = (search (rules, bytes_all), search (rules, bytes_few))
