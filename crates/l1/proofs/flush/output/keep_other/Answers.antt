-- The value in its cell, and its valid mark (`kept`).
use Rattle.l1.proofs.Refreshing.{header_id, header_fits, keep_sized, keep_from, keep_to, keep_number, keep_fits, keep_next, kept}
use borrow.Author.Rules.{rules}
use Rattle.l1.proofs.flush.output.keep_other.Goals as goal

pub get16-requires : goal.get16-requires
get16-requires c = search (rules, header_id)

pub overflow_add-at : goal.overflow_add-at
overflow_add-at c = search (rules, header_fits)

pub copy_value-requires : goal.copy_value-requires
copy_value-requires c = (search (rules, keep_sized), search (rules, keep_from), search (rules, keep_to))

pub set_mark-requires : goal.set_mark-requires
set_mark-requires c = search (rules, keep_number)

pub overflow_add-result : goal.overflow_add-result
overflow_add-result c = search (rules, header_fits)

pub overflow_add-result-2 : goal.overflow_add-result-2
overflow_add-result-2 c = search (rules, keep_fits)

pub returns : goal.returns
returns c = record { value = search (rules, keep_next); fact = search (rules, kept) }
