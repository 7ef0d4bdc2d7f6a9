-- By the valid mark.
use Rattle.l1.proofs.Reading.{mark_below, value_sized, value_from, value_fetched, value_valid}
use borrow.Author.Rules.{rules}
use Rattle.l1.proofs.cache_read.read_value.Goals as goal

pub is_marked-requires : goal.is_marked-requires
is_marked-requires c = search (rules, mark_below)

pub returns-then-not-is_marked : goal.returns-then-not-is_marked
returns-then-not-is_marked c = search (rules, value_fetched)

pub copy_value-requires : goal.copy_value-requires
copy_value-requires c = (search (rules, value_sized), search (rules, value_from), search rules)

pub returns : goal.returns
returns c = search (rules, value_valid)
