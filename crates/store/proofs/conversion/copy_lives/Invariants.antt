-- The loop has copied the live bits of the guests before g.
use Rattle.store.specs.Header.{header}
use Rattle.store.specs.Conversion.{copied_lives}
use Prim.Native.Nat.{◌-◌}
use lib.ListN.{length}
use mathlib.Core.Path.{◌≡◌}
use Rattle.store.proofs.conversion.copy_lives.Given as goal

abbrev pub invariant-loop-g : goal.invariant-loop-g
invariant-loop-g l = (length l.t ≡ length l.initial.t) × (l.t ≡ copied_lives l.l (header l.l l.s) (l.g - 1) l.initial.t)
