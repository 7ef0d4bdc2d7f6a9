-- The invariant is the walk that is left: the laws `first_start` of Walks and `skip-..` of Registers.
use Rattle.gsb.specs.Walk.{judged, walk, first_bad}
use Prim.Native.Nat.{◌-◌, ◌≤◌}
use lib.ListN.{length}
use mathlib.Core.Path.{◌≡◌}
use Rattle.gsb.proofs.walk.first_bad.Given as goal

abbrev pub invariant-walk : goal.invariant-walk
invariant-walk l = (l.i ≤ l.count) × (l.at ≤ length l.b) × (first_bad l.k l.b ≡ walk (judged l.k l.b) (l.count - l.i) l.i l.at)

abbrev pub decreases-walk : goal.decreases-walk
decreases-walk l = l.count - l.i
