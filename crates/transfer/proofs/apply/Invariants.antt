-- The loop has stored the elements before i.
use Rattle.gsb.specs.Walk.{offset_at}
use Rattle.transfer.specs.Transfer.{applied}
use Prim.Native.Nat.{◌-◌, ◌≤◌}
use lib.ListN.{length}
use mathlib.Core.Path.{◌≡◌}
use Rattle.transfer.proofs.apply.Given as goal

abbrev pub invariant-loop-i : goal.invariant-loop-i
invariant-loop-i l = (l.i ≤ l.count) × (l.at ≡ offset_at l.b l.i) × (length l.store ≡ length l.initial.store) × (l.store ≡ applied l.base l.b l.i l.initial.store)

abbrev pub decreases-loop-i : goal.decreases-loop-i
decreases-loop-i l = l.count - l.i
