-- The invariant is the walk that is left: the laws `left-..` of Registers.
use Rattle.gsb.proofs.Registers.{Left}
use Prim.Native.Nat.{◌≤◌}
use lib.ListN.{length}
use Rattle.gsb.proofs.walk.skip.Given as goal

abbrev pub invariant-loop-i : goal.invariant-loop-i
invariant-loop-i l = (l.at ≤ length l.b) × Left l.b l.count l.room l.offer l.fn.from l.i l.at
