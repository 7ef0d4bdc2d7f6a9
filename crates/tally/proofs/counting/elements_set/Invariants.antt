-- A loop with what is left as its invariant: the laws `count-..` of Counted.
use Prim.Native.Nat.{◌+◌, ◌<◌, ◌≤◌, ◌^◌}
use mathlib.Core.Path.{◌≡◌}
use lib.ListN.{length}
use Rattle.gsb.specs.Walk.{count_of}
use Rattle.tally.proofs.Counted.{Left}
use Rattle.tally.proofs.counting.elements_set.Given as goal

abbrev pub invariant-loop-i : goal.invariant-loop-i
invariant-loop-i l = (l.total ≤ l._i) × (l.at ≤ length l.b + 65539) × (l.count < 2 ^ 32) × (l.count ≡ count_of l.b) × (4 ≤ length l.b) × Left l.b l.count l.at l._i l.total
