-- At a mark the elements before it are written (`walk_put`).
use Rattle.l1.proofs.Pending.{reached}
use Rattle.octets.specs.Bytes.{put}
use Rattle.gsb.specs.Message.{elements_bytes}
use Rattle.exits.specs.Exits.{weigh, valued}
use Rattle.store.specs.Search.{first}
use Rattle.l1.specs.Marks.{is_marked}
use Rattle.l1.specs.Cache.{chosen}
use Rattle.l1.specs.Private.{is_changed, behind, at_of, left_of}
use Rattle.std.specs.Prelude.{Some}
use Rattle.l1.specs.declared.Mark.{Mark}
use Prim.Native.Nat.{◌+◌, ◌-◌, ◌≤◌, ◌<◌}
use lib.ListN.{length}
use mathlib.Core.Path.{◌≡◌}
use Rattle.l1.proofs.flush.input.put_changed.Given as goal

abbrev pub invariant-loop-next : goal.invariant-loop-next
invariant-loop-next l = (192 ≤ (at_of l.next)) × ((at_of l.next) ≤ 384) × (left_of l.next ≡ behind l.marks (at_of l.next)) × ((at_of l.next) ≡ first (is_marked l.marks) (384 - at_of l.next) (at_of l.next)) × (l.at ≡ 4 + weigh (chosen (is_changed l.marks) (reached (at_of l.next)))) × (length l.input ≡ length l.initial.input) × (l.input ≡ put l.initial.input 4 (elements_bytes (valued 0 l.values (chosen (is_changed l.marks) (reached (at_of l.next)))))) × ((y : Mark) → l.next ≡ Some y → y.at < 384)

abbrev pub decreases-loop-next : goal.decreases-loop-next
decreases-loop-next l = 384 - at_of l.next
