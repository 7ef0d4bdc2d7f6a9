-- By the lengths, then by the tests.
use Rattle.l1.proofs.Values.{admitted, write_within, write_short_values, write_short_marks, write_bad, write_done}
use borrow.Author.Rules.{rules}
use Rattle.l1.proofs.cache_write.write.Goals as goal

pub returns-in_default : goal.returns-in_default
returns-in_default c = search (rules, write_short_values)

pub returns-in_default-as_mut_array : goal.returns-in_default-as_mut_array
returns-in_default-as_mut_array c = rw c.in-Some.ensures.cases.same (search (rules, write_short_marks))

pub returns-in-Err : goal.returns-in-Err
returns-in-Err c =
    write_bad _ _ _ _ _ c.in-Some.ensures.cases c.in-Some-as_mut_array.ensures.cases _ _ _ c.offer_of-offer.ensures _ c.input_cell-cell.ensures _ c.judge_element.ensures _ _ c.in-Err.is c.refusal-in-Err.ensures

pub change_value-requires : goal.change_value-requires
change_value-requires c =
    let a = admitted _ _ _ _ _ _ _ c.input_cell-cell.ensures c.in-Ok.ensures in
    (write_within _ _ _ _ a, a.size)

pub returns-in-Ok : goal.returns-in-Ok
returns-in-Ok c =
    let a = admitted _ _ _ _ _ _ _ c.input_cell-cell.ensures c.in-Ok.ensures in
    write_done _ _ _ _ _ c.in-Some.ensures.cases c.in-Some-as_mut_array.ensures.cases _ _ _ c.offer_of-offer.ensures _ c.input_cell-cell.ensures _ c.judge_element.ensures _ _ _ _ c.in-Ok.is a.cell c.change_value.ensures
    c.success.ensures
