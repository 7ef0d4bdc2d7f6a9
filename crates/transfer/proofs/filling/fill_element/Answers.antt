-- A register by its laws of Registers, once over the size.
use Rattle.transfer.proofs.Registers.{its_place, its_step, its_end, its_room, its_inside, its_next, its_filled}
use borrow.Author.Rules.{rules}
use Rattle.transfer.proofs.filling.fill_element.Goals as goal

pub overflow_add-base : goal.overflow_add-base
overflow_add-base c = search (rules, its_place)

pub copy-requires : goal.copy-requires
copy-requires c = (search (rules, its_room), search (rules, its_inside))

pub overflow_add-step : goal.overflow_add-step
overflow_add-step c = search (rules, its_step)

pub overflow_add-result : goal.overflow_add-result
overflow_add-result c = search (rules, its_end)

pub returns : goal.returns
returns c = (search (rules, its_next), its_filled _ _ _ _ _ c.in-Some.x c.get16.ensures c.in-Some.ensures c.requires _ _ c.copy.ensures)
