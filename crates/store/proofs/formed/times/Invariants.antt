-- The invariant is the count so far: the laws `times-..` of Loops.
use Prim.Native.Nat.{◌≤◌}
use mathlib.Core.Path.{◌≡◌}
use Rattle.store.specs.Search.{tally}
use Rattle.store.specs.Header.{header, holds}
use Rattle.store.proofs.formed.times.Given as goal

abbrev pub invariant-loop-b : goal.invariant-loop-b
invariant-loop-b l = (l.n ≡ tally (holds l.l (header l.l l.s) l.w) l.b) × (l.n ≤ l.b)
