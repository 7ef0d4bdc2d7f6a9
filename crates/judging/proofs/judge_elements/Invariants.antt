-- The invariant is the walk that is left, and the marks of the elements before.
use Rattle.judging.specs.Judging.{compared, comparison}
use Rattle.judging.specs.Private.{marks}
use Rattle.exits.specs.Exits.{valued}
use Rattle.gsb.specs.Walk.{offset_at, walk}
use Rattle.gsb.specs.Message.{elements_in}
use Prim.Native.Nat.{◌-◌, ◌≤◌}
use lib.ListN.{length}
use mathlib.Core.Path.{◌≡◌}
use Rattle.judging.proofs.judge_elements.Given as goal

abbrev pub invariant-loop-i : goal.invariant-loop-i
invariant-loop-i l = (l.at ≡ offset_at l.b l.i) × (l.at ≤ length l.b) × (l.seen ≡ marks l.ids (elements_in l.b l.i)) × (comparison (valued l.base l.store l.ids) l.b ≡ walk (compared (valued l.base l.store l.ids) l.b) (l.count - l.i) l.i l.at)
