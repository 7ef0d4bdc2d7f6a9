-- The changed elements before the mark are all on the list (`lack_turn`).
use Rattle.l1.proofs.Pending.{reached}
use Rattle.l1.proofs.Lacking.{offers_all}
use Rattle.exits.specs.Exits.{weigh}
use Rattle.store.specs.Search.{first}
use Rattle.l1.specs.Marks.{is_marked}
use Rattle.l1.specs.Cache.{chosen}
use Rattle.l1.specs.Private.{is_changed, behind, at_of, left_of}
use Prim.Native.Nat.{◌+◌, ◌-◌, ◌≤◌}
use lib.ListN.{length}
use mathlib.Core.Bool.{true}
use mathlib.Core.Path.{◌≡◌}
use Rattle.l1.proofs.flush.lacking.first_lacked.Given as goal

abbrev pub invariant-loop-next : goal.invariant-loop-next
invariant-loop-next l = (192 ≤ (at_of l.next)) × ((at_of l.next) ≤ 384) × (left_of l.next ≡ behind l.marks (at_of l.next)) × ((at_of l.next) ≡ first (is_marked l.marks) (384 - at_of l.next) (at_of l.next)) × (l.index ≡ length (chosen (is_changed l.marks) (reached (at_of l.next)))) × (l.offset ≡ 4 + weigh (chosen (is_changed l.marks) (reached (at_of l.next)))) × (offers_all l.offer (chosen (is_changed l.marks) (reached (at_of l.next))) ≡ true)

abbrev pub decreases-loop-next : goal.decreases-loop-next
decreases-loop-next l = 384 - at_of l.next
