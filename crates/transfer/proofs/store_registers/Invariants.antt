-- The loop has stored the elements from the first place to i: the laws `since-..` of Moving.
use Rattle.gsb.specs.Walk.{offset_at}
use Rattle.transfer.proofs.Moving.{Since}
use Prim.Native.Nat.{◌-◌, ◌≤◌}
use lib.ListN.{length}
use mathlib.Core.Path.{◌≡◌}
use Rattle.transfer.proofs.store_registers.Given as goal

abbrev pub invariant-loop-i : goal.invariant-loop-i
invariant-loop-i l =
    (l.initial.i ≤ l.i) × (l.i ≤ l.count) × (l.at ≡ offset_at l.b l.i) × (length l.store ≡ length l.initial.store) × Since l.base l.b l.count (record { index = l.initial.i; offset = l.initial.at }) l.initial.store l.i l.store

abbrev pub decreases-loop-i : goal.decreases-loop-i
decreases-loop-i l = l.count - l.i
