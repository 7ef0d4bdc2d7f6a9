-- The invariant: the test that is left, and that every used word before it has its bit (`Noted`).
use mathlib.Core.Path.{◌≡◌}
use Prim.Native.Nat.{◌-◌}
use Rattle.store.specs.Search.{every}
use Rattle.store.specs.Header.{header, slot_good, words_good}
use Rattle.store.specs.Filter.{Noted}
use Rattle.store.proofs.filter.words_filtered.Given as goal

abbrev pub invariant-loop-a : goal.invariant-loop-a
invariant-loop-a l = (words_good l.l (header l.l l.s) ≡ every (slot_good l.l (header l.l l.s)) (l.l.slots - l.a) l.a) × Noted l.l (header l.l l.s) l.seen l.a
