-- The loop has filled the elements before i; those after it read as they did (Filling).
use Rattle.gsb.specs.Walk.{offset_at}
use Rattle.transfer.specs.Transfer.{filled}
use Prim.Native.Nat.{◌≤◌}
use lib.ListN.{length}
use mathlib.Core.Path.{◌≡◌}
use Rattle.transfer.proofs.filling.fill.Given as goal

abbrev pub invariant-loop-i : goal.invariant-loop-i
invariant-loop-i l = (l._i ≤ l.count) × (l.at ≡ offset_at l.initial.b l._i) × (length l.b ≡ length l.initial.b) × (l.b ≡ filled l.base l.store l.initial.b l._i)
