use mathlib.Core.Path.{refl}
use borrow.Author.Rules.{rules}
use Rattle.handover.proofs.Shown.{digit_under, digit_before, digit_from, digit_upto, left_rest, shown_room, shown_fits, less_left}
use Rattle.handover.proofs.Stored.{give_inside, give_fits, give_holds, give_after, give_turn, give_blank, after_end, given_end}
use Rattle.handover.proofs.giving.give_shown.Goals as goal

pub loop-left-init : goal.loop-left-init
loop-left-init c = (search rules, search rules, search rules, search rules, refl, search rules, search rules, search rules, refl, refl)

pub overflow_sub-e : goal.overflow_sub-e
overflow_sub-e c = search (rules, digit_under)

pub overflow_sub-e-in-loop-left : goal.overflow_sub-e-in-loop-left
overflow_sub-e-in-loop-left c = search (rules, digit_before)

pub place_of-place-requires : goal.place_of-place-requires
place_of-place-requires c = (search rules, search (rules, digit_from), search rules)

pub overflow_add-base : goal.overflow_add-base
overflow_add-base c = search (rules, shown_fits)

pub copy-requires : goal.copy-requires
copy-requires c = (search (rules, give_inside), search (rules, shown_room))

pub overflow_add-here : goal.overflow_add-here
overflow_add-here c = search (rules, give_fits)

pub loop-left-smaller : goal.loop-left-smaller
loop-left-smaller c = search (rules, less_left)

pub loop-left-preserved : goal.loop-left-preserved
loop-left-preserved c = (search (rules, digit_upto), search rules, search (rules, left_rest), search rules, search rules, search (rules, give_inside), search (rules, give_holds), search (rules, give_blank), search (rules, give_after), search (rules, give_turn))

pub returns : goal.returns
returns c = record { ends = search (rules, after_end); inside = search rules; store = search (rules, given_end) }
