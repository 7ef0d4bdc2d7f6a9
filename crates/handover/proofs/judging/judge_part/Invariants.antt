-- Rests on `walked_is`: a part is right if so many values stand inside the buffer, and none of them is zero.
use mathlib.Core.Path.{◌≡◌}
use Prim.Native.Nat.{◌+◌, ◌-◌, ◌≤◌}
use lib.Count.{ones}
use Rattle.handover.specs.Private.{place}
use Rattle.handover.proofs.Counts.{solid}
use Rattle.handover.proofs.judging.judge_part.Given as goal

abbrev pub invariant-loop-i : goal.invariant-loop-i
invariant-loop-i l =
    (l._i ≤ ones l.m) × (l.here + place l.from ≡ l.at + place (l.from + l._i)) × (solid l.b l.size (ones l.m) l.at ≡ solid l.b l.size (ones l.m - l._i) l.here)
