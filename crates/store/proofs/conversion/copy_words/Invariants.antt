-- The loop has recoded the words of the slots before a.
use Rattle.store.specs.Header.{header}
use Rattle.store.specs.Conversion.{copied_words}
use lib.ListN.{length}
use mathlib.Core.Path.{◌≡◌}
use Rattle.store.proofs.conversion.copy_words.Given as goal

abbrev pub invariant-loop-a : goal.invariant-loop-a
invariant-loop-a l = (length l.t ≡ length l.initial.t) × (l.t ≡ copied_words l.l l.m (header l.l l.s) l.a l.initial.t)
