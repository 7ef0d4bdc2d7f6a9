-- From the last slot down, each doubles what is known: the laws `mask-..` of Touching.
use Prim.Native.Nat.{◌-◌, ◌≤◌}
use mathlib.Core.Path.{◌≡◌}
use Rattle.tally.specs.Tally.{dropped}
use Rattle.tally.specs.Private.{mask_of}
use Rattle.tally.proofs.slots.dropped_slots.Given as goal

abbrev pub invariant-loop-a : goal.invariant-loop-a
invariant-loop-a l = (l.a ≤ l.l.slots) × (l.mask ≡ mask_of (dropped l.l l.store l.flags l.guest) (l.l.slots - l.a) l.a)

abbrev pub decreases-loop-a : goal.decreases-loop-a
decreases-loop-a l = l.a
