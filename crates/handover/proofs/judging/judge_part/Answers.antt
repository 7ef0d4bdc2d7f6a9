use borrow.Author.Rules.{rules}
use Rattle.handover.proofs.Counts.{place_start, solid_start, count_fits, count_add, count_upto, count_under, count_short, count_next, value_room, here_fits, count_turn, count_bad, count_end}
use Rattle.handover.proofs.judging.judge_part.Goals as goal

pub overflow_cast-shown : goal.overflow_cast-shown
overflow_cast-shown c = search (rules, count_fits)

pub overflow_add-from : goal.overflow_add-from
overflow_add-from c = search (rules, count_add)

pub place_of-requires : goal.place_of-requires
place_of-requires c = (search rules, search rules, search (rules, count_upto))

pub overflow_sub-long : goal.overflow_sub-long
overflow_sub-long c = search (rules, count_under)

pub returns-then-b-at : goal.returns-then-b-at
returns-then-b-at c = search (rules, count_short)

pub loop-i-init : goal.loop-i-init
loop-i-init c = (search rules, search (rules, place_start), search (rules, solid_start))

pub is_zero-requires : goal.is_zero-requires
is_zero-requires c = search (rules, value_room)

pub returns-then-is_zero : goal.returns-then-is_zero
returns-then-is_zero c = search (rules, count_bad)

pub overflow_add-here : goal.overflow_add-here
overflow_add-here c = search (rules, here_fits)

pub loop-i-preserved : goal.loop-i-preserved
loop-i-preserved c = (search rules, search (rules, count_next), search (rules, count_turn))

pub returns : goal.returns
returns c = search (rules, count_end)
