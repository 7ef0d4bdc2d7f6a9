-- Eight bytes are the same exactly if their number is (`same_eight`).
use Rattle.judging.proofs.Bytewise.{same_eight}
use borrow.Author.Rules.{rules}
use Rattle.judging.proofs.values.same_value.Goals as goal

pub returns-then-n-eq8 : goal.returns-then-n-eq8
returns-then-n-eq8 c = search (rules, same_eight)
