-- By the lengths, then by the tests.
use Rattle.l1.proofs.Values.{admitted, readable_full}
use Rattle.l1.proofs.Reading.{read_short_values, read_short_marks, read_bad, read_good}
use borrow.Author.Rules.{rules}
use Rattle.l1.proofs.cache_read.read.Goals as goal

pub returns-in_default : goal.returns-in_default
returns-in_default c = search (rules, read_short_values)

pub returns-in_default-as_mut_array : goal.returns-in_default-as_mut_array
returns-in_default-as_mut_array c = rw c.in-Some.ensures.cases.same (search (rules, read_short_marks))

pub returns-in-Err : goal.returns-in-Err
returns-in-Err c =
    read_bad _ _ _ _ _ _ _ _ c.in-Some.ensures.cases c.in-Some-as_mut_array.ensures.cases _ _ _ c.offer_of-offer.ensures _ c.readable_cell-cell.ensures _ c.judge_element.ensures _ _ c.in-Err.is c.refusal-in-Err.ensures

pub read_value-requires : goal.read_value-requires
read_value-requires c =
    let a = admitted _ _ _ _ _ _ _ c.readable_cell-cell.ensures c.in-Ok.ensures in
    (readable_full _ _ a.taken, a.size, a.cell)

pub returns-in-Ok : goal.returns-in-Ok
returns-in-Ok c =
    read_good _ _ _ _ _ _ _ _ c.in-Some.ensures.cases c.in-Some-as_mut_array.ensures.cases _ _ _ c.offer_of-offer.ensures _ c.readable_cell-cell.ensures _ c.judge_element.ensures _ _ _ _ _ c.in-Ok.is c.read_value.ensures
