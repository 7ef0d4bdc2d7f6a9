-- A register by its laws of Registers, once over the size.
use Rattle.transfer.proofs.Registers.{its_place, its_step, its_end, its_room, its_inside, its_next, its_stored}
use borrow.Author.Rules.{rules}
use Rattle.transfer.proofs.store_register.Goals as goal

pub overflow_add-base : goal.overflow_add-base
overflow_add-base c = search (rules, its_place)

pub copy-requires : goal.copy-requires
copy-requires c = (search (rules, its_inside), search (rules, its_room))

pub overflow_add-step : goal.overflow_add-step
overflow_add-step c = search (rules, its_step)

pub overflow_add-result : goal.overflow_add-result
overflow_add-result c = search (rules, its_end)

pub returns : goal.returns
returns c = (search (rules, its_next), its_stored _ _ _ _ _ c.in_ok-x.x c.get16.ensures c.in_ok-x.ensures c.requires _ _ c.copy.ensures)
