use mathlib.Core.Path.{refl}
use borrow.Author.Rules.{rules}
use Rattle.handover.proofs.Runs.{run_turn, buffer_turn, room_turn, word_here, room_here, run_end, buffer_end}
use Rattle.handover.proofs.Places.{start_fits, start_here, part_here, part_room, part_fits}
use Rattle.handover.proofs.taking.take_part.Goals as goal

pub overflow_add-here : goal.overflow_add-here
overflow_add-here c = search (rules, start_fits)

pub loop-e-init : goal.loop-e-init
loop-e-init c = (search rules, search (rules, start_here), refl, search rules, refl, refl)

pub take_one-so_far-requires : goal.take_one-so_far-requires
take_one-so_far-requires c = (search (rules, part_room), search (rules, room_here), search (rules, word_here))

pub overflow_add-here-in-loop-e : goal.overflow_add-here-in-loop-e
overflow_add-here-in-loop-e c = search (rules, part_fits)

pub loop-e-preserved : goal.loop-e-preserved
loop-e-preserved c = (search rules, search (rules, part_here), search rules, search (rules, room_turn), search (rules, run_turn), search (rules, buffer_turn))

pub returns : goal.returns
returns c = record { run = search (rules, run_end); buffer = search (rules, buffer_end) }
