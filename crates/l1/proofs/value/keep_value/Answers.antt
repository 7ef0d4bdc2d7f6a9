-- The value in its cell, and its valid mark (`kept`).
use Rattle.l1.proofs.Values.{keep_sized, keep_to, keep_number, kept}
use borrow.Author.Rules.{rules}
use Rattle.l1.proofs.value.keep_value.Goals as goal

pub copy_value-requires : goal.copy_value-requires
copy_value-requires c = (search (rules, keep_sized), search rules, search (rules, keep_to))

pub set_mark-requires : goal.set_mark-requires
set_mark-requires c = search (rules, keep_number)

pub returns : goal.returns
returns c = search (rules, kept)
