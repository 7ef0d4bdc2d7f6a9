-- The invariant is what is left of the IDs and of the marks.
use Rattle.judging.specs.Private.{unmarked}
use lib.ListN.{drop}
use Prim.Native.Nat.{◌/◌, ◌^◌}
use mathlib.Core.Path.{◌≡◌}
use Rattle.judging.proofs.marks.first_unmarked.Given as goal

abbrev pub invariant-loop-j : goal.invariant-loop-j
invariant-loop-j l = unmarked l.ids l.seen ≡ unmarked (drop l.j l.ids) (l.seen / 2 ^ l.j)
