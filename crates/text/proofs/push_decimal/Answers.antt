-- A number below 10 ^ most is shown the same with `most` digits as with 20, and in no more than `most`.
use Rattle.text.proofs.Writes.{decimal_room, decimal_end, wrote_decimal}
use borrow.Author.Rules.{rules}
use Rattle.text.proofs.push_decimal.Goals as goal

pub push_shown-requires : goal.push_shown-requires
push_shown-requires c = search (rules, decimal_room)

pub returns : goal.returns
returns c = (search (rules, wrote_decimal), search (rules, decimal_end))
