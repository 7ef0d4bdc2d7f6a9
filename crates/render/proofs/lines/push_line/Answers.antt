-- Six texts one behind the other: `wrote_line`.
use Rattle.render.proofs.Listed.{wrote_line}
use borrow.Author.Rules.{rules}
use Rattle.render.proofs.lines.push_line.Goals as goal

pub returns : goal.returns
returns c = (
  wrote_line _ _ _ _ _ c.push_field-end.ensures.0 c.push_field-end-2.ensures.0 c.push_hex4-end.ensures c.push-end.ensures c.push_decimal-end.ensures.0
      c.push_verdict.ensures.0,
  search rules,
)
