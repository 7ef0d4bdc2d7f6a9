-- The invariant is that the bytes so far are the same.
use Rattle.octets.specs.Bytes.{bytes_at}
use mathlib.Core.Path.{◌≡◌}
use Rattle.judging.proofs.values.same_bytes.Given as goal

abbrev pub invariant-loop-i : goal.invariant-loop-i
invariant-loop-i l = bytes_at l.a l.x l.i ≡ bytes_at l.b l.y l.i
