-- The leading zeros tell it, and its bit is cleared (`top_cleared`).
use Rattle.l1.proofs.Words.{zeros_fit, zeros_below, place_fits, top_cleared}
use borrow.Author.Rules.{rules}
use Rattle.l1.proofs.marks.mark_in.Goals as goal

pub overflow_cast-zeros : goal.overflow_cast-zeros
overflow_cast-zeros c = search (rules, zeros_fit)

pub overflow_add-result : goal.overflow_add-result
overflow_add-result c = search (rules, place_fits)

pub overflow_sub-result : goal.overflow_sub-result
overflow_sub-result c = search (rules, zeros_below)

pub returns : goal.returns
returns c = search (rules, top_cleared)
