-- The loop has copied i bytes, and `copy_more` adds one.
use mathlib.Core.Path.{◌≡◌}
use lib.ListN.{length}
use Rattle.octets.specs.Bytes.{put, bytes_at}
use Rattle.octets.proofs.copying.copy_bytes.Given as goal

abbrev pub invariant-loop-i : goal.invariant-loop-i
invariant-loop-i l = (length l.dst ≡ length l.initial.dst) × (l.dst ≡ put l.initial.dst l.to (bytes_at l.src l.from l.i))
