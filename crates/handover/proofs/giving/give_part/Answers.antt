-- Rests on `shown_all` if all are shown; else on `clear_blank` and `clear_gave`.
use borrow.Author.Rules.{rules}
use Rattle.handover.proofs.Places.{start_fits, whole_under, whole_room}
use Rattle.handover.proofs.Stored.{full_ends, full_inside, full_given, clear_blank, clear_gave, end_fits}
use Rattle.handover.proofs.giving.give_part.Goals as goal

pub overflow_sub-long : goal.overflow_sub-long
overflow_sub-long c = search (rules, whole_under)

pub overflow_add-base : goal.overflow_add-base
overflow_add-base c = search (rules, start_fits)

pub copy-requires : goal.copy-requires
copy-requires c = (search (rules, full_inside), search (rules, whole_room))

pub overflow_add-result : goal.overflow_add-result
overflow_add-result c = search (rules, end_fits)

pub returns-then-is_full : goal.returns-then-is_full
returns-then-is_full c = record { ends = search (rules, full_ends); inside = search (rules, full_inside); store = search (rules, full_given) }

pub overflow_add-base-2 : goal.overflow_add-base-2
overflow_add-base-2 c = search (rules, start_fits)

pub clear-requires : goal.clear-requires
clear-requires c = search (rules, whole_room)

pub give_shown-requires : goal.give_shown-requires
give_shown-requires c = (search rules, search rules, search rules, search rules, search rules, search (rules, clear_blank))

pub returns : goal.returns
returns c = search (rules, clear_gave)
