use Rattle.gsb.proofs.Walks.{offset_start}
use Rattle.transfer.proofs.Moving.{ready_all, ready_onward, apply_start, apply_end, onward_end, onward_turn, onward_place}
use mathlib.Core.Path.{refl}
use borrow.Author.Rules.{rules}
use Rattle.transfer.proofs.apply.Goals as goal

pub loop-i-init : goal.loop-i-init
loop-i-init c = (search rules, offset_start _, refl, apply_start _ _ _)

pub store_registers-here-requires : goal.store_registers-here-requires
store_registers-here-requires c = (search (rules, ready_all), search rules, search rules, search rules)

pub returns-then-count-index : goal.returns-then-count-index
returns-then-count-index c = search (rules, onward_end)

pub store_other-at-requires : goal.store_other-at-requires
store_other-at-requires c =
    ready_onward _ _ _ _ _ _ _ _ _ c.requires (search rules) (search rules) c.store_registers-here.ensures (search rules)

pub loop-i-preserved : goal.loop-i-preserved
loop-i-preserved c = (search rules, search (rules, onward_place), search rules, search (rules, onward_turn))

pub returns : goal.returns
returns c = search (rules, apply_end)
