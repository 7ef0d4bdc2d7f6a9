-- The loop has written the elements before the index.
use Rattle.exits.specs.Exits.{weigh, valued}
use Rattle.gsb.specs.Message.{elements_bytes}
use Rattle.octets.specs.Bytes.{put}
use lib.ListN.{take, length}
use Prim.Native.Nat.{◌+◌}
use mathlib.Core.Path.{◌≡◌}
use Rattle.exits.proofs.put_output.Given as goal

abbrev pub invariant-loop-id : goal.invariant-loop-id
invariant-loop-id l = (l.at ≡ 4 + weigh (take l.id-index l.ids)) × (length l.output ≡ length l.initial.output) × (l.output ≡ put l.initial.output 4 (elements_bytes (valued l.base l.store (take l.id-index l.ids))))
