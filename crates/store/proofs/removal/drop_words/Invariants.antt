-- The loop has dropped the words of the slots before a.
use Rattle.store.specs.Store.{drop_words}
use lib.ListN.{length}
use mathlib.Core.Path.{◌≡◌}
use Rattle.store.proofs.removal.drop_words.Given as goal

abbrev pub invariant-loop-a : goal.invariant-loop-a
invariant-loop-a l = (length l.s ≡ length l.initial.s) × (l.s ≡ drop_words l.l l.g l.a l.initial.s)
