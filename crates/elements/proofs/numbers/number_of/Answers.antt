use Rattle.elements.proofs.Scans.{range_upward, count_end, count_early, count_in, count_next}
use Rattle.elements.proofs.Told.{count_told}
use native.Mathlib.Omega.{arith}
use mathlib.Core.Path.{sym}
use borrow.Author.Rules.{rules}
use Rattle.elements.proofs.numbers.number_of.Goals as goal

pub loop-i-init : goal.loop-i-init
loop-i-init c = (search rules, sym (count_told _))

pub returns-then-id-row : goal.returns-then-id-row
returns-then-id-row c = search (rules, count_early)

pub returns-then-id-row-2 : goal.returns-then-id-row-2
returns-then-id-row-2 c = search (rules, count_in)

pub many-n-requires : goal.many-n-requires
many-n-requires c = range_upward c.loop-i.i c.row_at-row.result c.row_at-row.ensures (omega arith)

pub loop-i-preserved : goal.loop-i-preserved
loop-i-preserved c = (search rules, search (rules, count_next))

pub returns : goal.returns
returns c = search (rules, count_end)
