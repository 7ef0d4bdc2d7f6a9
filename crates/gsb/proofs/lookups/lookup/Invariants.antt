-- The invariant is the walk that is left and the last match so far: the laws of Lookups.
use mathlib.Core.Path.{◌≡◌}
use Prim.Native.Nat.{◌-◌, ◌≤◌}
use lib.ListN.{length}
use Rattle.gsb.specs.Walk.{offset_at, walk}
use Rattle.gsb.specs.Lookup.{framed, last_with, Inside}
use Rattle.gsb.proofs.lookups.lookup.Given as goal

abbrev pub invariant-loop-i : goal.invariant-loop-i
invariant-loop-i l = (l.at ≤ length l.b) × (l.at ≡ offset_at l.b l.i) × (l.last ≡ last_with l.b l.id l.i) × Inside l.b l.last × (walk (framed l.b) l.count 0 4 ≡ walk (framed l.b) (l.count - l.i) l.i l.at)
