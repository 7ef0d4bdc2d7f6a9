-- The invariant is the walk that is left, where the element starts, and that it lies past as many headers as were passed: the laws of JoinLaws.
use mathlib.Core.Path.{◌≡◌}
use Prim.Native.Nat.{◌+◌, ◌-◌, ◌*◌, ◌≤◌}
use lib.ListN.{length}
use Rattle.gsb.specs.Walk.{offset_at, walk}
use Rattle.gsb.specs.Lookup.{framed}
use Rattle.gsb.proofs.joining.end_of.Given as goal

abbrev pub invariant-loop-i : goal.invariant-loop-i
invariant-loop-i l = (4 + 4 * l.i ≤ l.at) × (l.at ≤ length l.b) × (l.at ≡ offset_at l.b l.i) × (walk (framed l.b) l.count 0 4 ≡ walk (framed l.b) (l.count - l.i) l.i l.at)
