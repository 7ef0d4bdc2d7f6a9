use Rattle.elements.proofs.Scans.{range_upward, range_light, element_fits, element_room, element_end, element_here, element_next}
use Rattle.elements.proofs.Told.{element_told_lem}
use native.Mathlib.Omega.{arith}
use mathlib.Core.Path.{sym}
use borrow.Author.Rules.{rules}
use Rattle.elements.proofs.numbers.thread_element.Goals as goal

pub loop-i-init : goal.loop-i-init
loop-i-init c = (search rules, search rules, sym (element_told_lem _))

pub many-n-requires : goal.many-n-requires
many-n-requires c = range_upward c.loop-i.i c.row_at-row.result c.row_at-row.ensures (omega arith)

pub overflow_mul-result : goal.overflow_mul-result
overflow_mul-result c = search (rules, element_fits)

pub overflow_add-result-then-left-n : goal.overflow_add-result-then-left-n
overflow_add-result-then-left-n c = search (rules, element_room)

pub returns-then-left-n : goal.returns-then-left-n
returns-then-left-n c = search (rules, element_here)

pub bytes_of-at-requires : goal.bytes_of-at-requires
bytes_of-at-requires c = (range_upward c.loop-i.i c.row_at-row.result c.row_at-row.ensures (omega arith), range_light c.loop-i.i c.row_at-row.result c.row_at-row.ensures (omega arith))

pub loop-i-preserved : goal.loop-i-preserved
loop-i-preserved c = (search rules, search rules, search (rules, element_next))

pub returns : goal.returns
returns c = search (rules, element_end)
