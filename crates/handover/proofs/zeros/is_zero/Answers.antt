-- Rests on `zero_one` and `zero_two`: the numbers that the bytes make are zero.
use borrow.Author.Rules.{rules}
use Rattle.handover.proofs.Zero.{zero_one, zero_two}
use Rattle.handover.proofs.zeros.is_zero.Goals as goal

pub returns-then-n-eq8 : goal.returns-then-n-eq8
returns-then-n-eq8 c = search (rules, zero_one 8)

pub returns-then-n-eq16 : goal.returns-then-n-eq16
returns-then-n-eq16 c = search (rules, zero_two 8 8)

pub returns-then-n-eq4 : goal.returns-then-n-eq4
returns-then-n-eq4 c = search (rules, zero_one 4)
