-- What is left to write: the run and the buffer as they are now, with the bits and the body from e on, make the result.
use mathlib.Core.Path.{◌≡◌}
use Prim.Native.Nat.{◌+◌, ◌-◌, ◌≤◌}
use lib.ListN.{length}
use Rattle.octets.specs.Bytes.{put}
use Rattle.handover.specs.Form.{state_at, body}
use Rattle.handover.specs.Private.{place, Room, written}
use Rattle.handover.proofs.taking.take_part.Given as goal

abbrev pub invariant-loop-e : goal.invariant-loop-e
invariant-loop-e l =
    (l.from ≤ l._e) × (l.here ≡ l.base + place l._e) × (length l.buffer ≡ length l.initial.buffer) × Room l._e l.to l.so_far (length l.initial.buffer)
    × (written l.initial.so_far (state_at l.store l.base) l.from (l.to - l.from) ≡ written l.so_far (state_at l.store l.base) l._e (l.to - l._e))
    × (put l.initial.buffer l.initial.so_far.at (body (state_at l.store l.base) l.from (l.to - l.from)) ≡ put l.buffer l.so_far.at (body (state_at l.store l.base) l._e (l.to - l._e)))
