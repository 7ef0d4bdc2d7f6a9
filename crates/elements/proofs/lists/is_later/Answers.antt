-- The six tests are the list's (`later_told`). Assumes nothing.
use Rattle.elements.proofs.Later.{later_told}
use Rattle.elements.proofs.lists.is_later.Goals as goal

pub returns : goal.returns
returns c =
    later_told _ _ _ _ _ _ _ c.in_row.ensures
    c.in_row-2.ensures c.in_row-3.ensures
    c.in_row-4.ensures c.in_row-5.ensures c.in_row-6.ensures
