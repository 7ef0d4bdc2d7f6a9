-- A turn of the scan is one of `scanned` (`scan_below`, `scan_hit`, `scan_next`). Assumes nothing.
use Rattle.elements.specs.Private.{ranges_from, scanned}
use mathlib.Core.Path.{◌≡◌}
use Prim.Native.Nat.{◌-◌, ◌*◌, ◌≤◌}
use Rattle.elements.proofs.kinds.scan.Given as goal

abbrev pub invariant-loop-i : goal.invariant-loop-i
invariant-loop-i l = (l.at ≤ 1024 * l.i) × (scanned (ranges_from (l.end - l.from) l.from) l.id 0 ≡ scanned (ranges_from (l.end - l.i) l.i) l.id l.at)
