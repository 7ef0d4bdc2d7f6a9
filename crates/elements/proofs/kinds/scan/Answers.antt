use native.Mathlib.Omega.{arith}
use Rattle.elements.proofs.Scans.{range_upward, range_light, range_room, scan_end, scan_below, scan_hit, scan_next}
use mathlib.Core.Path.{refl}
use borrow.Author.Rules.{rules}
use Rattle.elements.proofs.kinds.scan.Goals as goal

pub loop-i-init : goal.loop-i-init
loop-i-init c = (search rules, refl)

pub returns-then-id-row : goal.returns-then-id-row
returns-then-id-row c = search (rules, scan_below)

pub listed-requires : goal.listed-requires
listed-requires c = (search rules, range_room c.loop-i.i c.row_at-row.result c.row_at-row.ensures (omega arith) _ _ (search rules) (search rules))

pub returns-then-id-row-2 : goal.returns-then-id-row-2
returns-then-id-row-2 c = search (rules, scan_hit)

pub bytes_of-at-requires : goal.bytes_of-at-requires
bytes_of-at-requires c = (range_upward c.loop-i.i c.row_at-row.result c.row_at-row.ensures (omega arith), range_light c.loop-i.i c.row_at-row.result c.row_at-row.ensures (omega arith))

pub loop-i-preserved : goal.loop-i-preserved
loop-i-preserved c = (search rules, search (rules, scan_next))

pub returns : goal.returns
returns c = search (rules, scan_end)
