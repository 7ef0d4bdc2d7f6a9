-- A buffer of one element that 01's list permits is good where the guest's list has it (`one-..`).
use Rattle.state.proofs.Elements.{one_lacked, one_left, one_number, one_fits, one_from, one_to, one_found, one_value}
use borrow.Author.Rules.{rules}
use Rattle.state.proofs.single.get_one.Goals as goal

pub returns-then-not-is_offered : goal.returns-then-not-is_offered
returns-then-not-is_offered c = record { value = search (rules, one_lacked); value_after = search (rules, one_left) }

pub thread_element-x-requires : goal.thread_element-x-requires
thread_element-x-requires c = search (rules, one_number)

pub overflow_add-base : goal.overflow_add-base
overflow_add-base c = search (rules, one_fits)

pub copy-requires : goal.copy-requires
copy-requires c = (search (rules, one_from), search (rules, one_to))

pub returns : goal.returns
returns c = record { value = search (rules, one_found); value_after = search (rules, one_value) }
