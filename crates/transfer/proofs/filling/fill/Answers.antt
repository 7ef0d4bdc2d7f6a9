use Rattle.gsb.proofs.Walks.{offset_start}
use Rattle.transfer.proofs.Filled.{fill_ready, fill_next, fill_turn, fill_start, fill_end}
use mathlib.Core.Path.{refl}
use borrow.Author.Rules.{rules}
use Rattle.transfer.proofs.filling.fill.Goals as goal

pub loop-i-init : goal.loop-i-init
loop-i-init c = (search rules, offset_start _, refl, fill_start _ _ _)

pub fill_element-at-requires : goal.fill_element-at-requires
fill_element-at-requires c = search (rules, fill_ready)

pub loop-i-preserved : goal.loop-i-preserved
loop-i-preserved c = (search rules, search (rules, fill_next), search rules, search (rules, fill_turn))

pub returns : goal.returns
returns c = search (rules, fill_end)
