-- A turn of the scan is one of `counted`, which tells what the table tells (`count_told`). Assumes nothing.
use Rattle.elements.specs.Table.{number_of}
use Rattle.elements.specs.Private.{ranges_from, counted}
use mathlib.Core.Path.{◌≡◌}
use Prim.Native.Nat.{◌-◌, ◌*◌, ◌≤◌}
use Rattle.elements.proofs.numbers.number_of.Given as goal

abbrev pub invariant-loop-i : goal.invariant-loop-i
invariant-loop-i l = (l.n ≤ 65536 * l.i) × (number_of l.id ≡ counted (ranges_from (16 - l.i) l.i) l.id l.n)
