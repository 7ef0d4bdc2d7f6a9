-- Six texts one behind the other: `wrote_record`.
use Rattle.records.proofs.Turns.{wrote_record}
use borrow.Author.Rules.{rules}
use Rattle.records.proofs.lines.push_record.Goals as goal

pub returns : goal.returns
returns c = (
  wrote_record _ _ _ c.push_field-end.ensures.0 c.push_field-end-2.ensures.0 c.push_field-end-3.ensures.0 c.push_field-end-4.ensures.0
      c.push_decimal-end.ensures.0 c.push.ensures,
  search rules,
)
