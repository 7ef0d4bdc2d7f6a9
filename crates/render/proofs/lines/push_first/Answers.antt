-- Five texts one behind the other: `wrote_first`.
use Rattle.render.proofs.Listed.{wrote_first}
use borrow.Author.Rules.{rules}
use Rattle.render.proofs.lines.push_first.Goals as goal

pub returns : goal.returns
returns c = (
  wrote_first _ _ c.get32-count.ensures c.push-end.ensures c.push_decimal-end.ensures.0 c.push-end-2.ensures c.push_decimal-end-2.ensures.0
      c.push.ensures,
  search rules,
)
