-- Seven texts one behind the other: `wrote_refused`.
use Rattle.render.proofs.Listed.{wrote_refused}
use borrow.Author.Rules.{rules}
use Rattle.render.proofs.lines.push_refused.Goals as goal

pub returns : goal.returns
returns c = (
  wrote_refused _ c.push-end.ensures c.push_decimal-end.ensures.0 c.push-end-2.ensures c.push_decimal-end-2.ensures.0 c.push-end-3.ensures c.push_decimal-end-3.ensures.0
      c.push.ensures,
  search rules,
)
