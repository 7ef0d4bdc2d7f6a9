-- The loop has cleared the words and the marks of the slots before a.
use Rattle.store.specs.Store.{no_words}
use lib.ListN.{length}
use mathlib.Core.Path.{◌≡◌}
use Rattle.store.proofs.removal.no_words.Given as goal

abbrev pub invariant-loop-a : goal.invariant-loop-a
invariant-loop-a l = (length l.s ≡ length l.initial.s) × (l.s ≡ no_words l.l l.a l.initial.s)
