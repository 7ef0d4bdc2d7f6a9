-- A turn of the scan is one of `element_in`, which tells what the table tells (`element_told_lem`). Assumes nothing.
use Rattle.elements.specs.Table.{thread_element}
use Rattle.elements.specs.Private.{ranges_from, element_in}
use mathlib.Core.Path.{◌≡◌}
use Prim.Native.Nat.{◌-◌, ◌*◌, ◌≤◌}
use Rattle.elements.proofs.numbers.thread_element.Given as goal

abbrev pub invariant-loop-i : goal.invariant-loop-i
invariant-loop-i l = (l.left ≤ l.e) × (l.at ≤ 1024 * l.i) × (thread_element l.e ≡ element_in (ranges_from (16 - l.i) l.i) l.left l.at)
