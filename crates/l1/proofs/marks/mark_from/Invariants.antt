-- The words from k to i have no mark.
use Rattle.store.specs.Search.{first}
use Rattle.l1.specs.Marks.{is_marked}
use Prim.Native.Nat.{◌-◌, ◌*◌}
use mathlib.Core.Path.{◌≡◌}
use Rattle.l1.proofs.marks.mark_from.Given as goal

abbrev pub invariant-loop-i : goal.invariant-loop-i
invariant-loop-i l = (first (is_marked l.m) (384 - 64 * l.k) (64 * l.k) ≡ first (is_marked l.m) (384 - 64 * l.i) (64 * l.i))
