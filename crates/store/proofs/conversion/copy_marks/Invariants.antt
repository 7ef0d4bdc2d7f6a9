-- The loop has copied the marks of the slots before a.
use Rattle.store.specs.Header.{header}
use Rattle.store.specs.Conversion.{copied_marks}
use lib.ListN.{length}
use mathlib.Core.Path.{◌≡◌}
use Rattle.store.proofs.conversion.copy_marks.Given as goal

abbrev pub invariant-loop-a : goal.invariant-loop-a
invariant-loop-a l = (length l.t ≡ length l.initial.t) × (l.t ≡ copied_marks l.l l.m (header l.l l.s) l.a l.initial.t)
