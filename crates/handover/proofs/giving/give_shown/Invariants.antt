-- What is left to store: the bits left are those of the elements from e on, whose values are still zero.
use mathlib.Core.Bool.{true}
use mathlib.Core.Path.{◌≡◌}
use Prim.Native.Nat.{◌+◌, ◌-◌, ◌≤◌}
use lib.ListN.{length}
use Rattle.octets.specs.Bytes.{put}
use Rattle.handover.specs.Form.{state_bytes, presence, is_shown, holds, given}
use Rattle.handover.specs.Private.{Blank, after, place}
use Rattle.handover.proofs.giving.give_shown.Given as goal

abbrev pub invariant-loop-left : goal.invariant-loop-left
invariant-loop-left l =
    (l.from ≤ l.e) × (l.e ≤ l.to) × (l.left ≡ presence (is_shown l.b) l.e (l.to - l.e)) × (l.base + state_bytes ≤ length l.store)
    × (length l.store ≡ length l.initial.store) × (l.here ≤ length l.b) × (holds l.b l.e (l.to - l.e) l.here ≡ true) × Blank l.store l.base l.e l.to
    × (after l.b l.from (l.to - l.from) l.at ≡ after l.b l.e (l.to - l.e) l.here)
    × (put l.initial.store (l.base + place l.from) (given l.b l.from (l.to - l.from) l.at) ≡ put l.store (l.base + place l.e) (given l.b l.e (l.to - l.e) l.here))

abbrev pub decreases-loop-left : goal.decreases-loop-left
decreases-loop-left l = l.left
