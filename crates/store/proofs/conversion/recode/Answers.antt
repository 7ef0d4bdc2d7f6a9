-- By the used bit: the laws `recode-..`.
use Rattle.store.proofs.Converting.{recode_none, recode_some, recode_small, recode_room, some_ids}
use borrow.Author.Rules.{rules}
use Rattle.store.proofs.conversion.recode.Goals as goal

pub returns-then-w-l : goal.returns-then-w-l
returns-then-w-l c = (search (rules, recode_none), search (rules, some_ids))

pub overflow_add-result : goal.overflow_add-result
overflow_add-result c = search (rules, recode_room)

pub returns-else-w-l : goal.returns-else-w-l
returns-else-w-l c = (search (rules, recode_some), search (rules, recode_small))
