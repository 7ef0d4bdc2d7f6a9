-- The loop has cleared the live bits of the guests before g.
use Rattle.store.specs.Store.{no_guests}
use Prim.Native.Nat.{◌-◌}
use lib.ListN.{length}
use mathlib.Core.Path.{◌≡◌}
use Rattle.store.proofs.removal.no_guests.Given as goal

abbrev pub invariant-loop-g : goal.invariant-loop-g
invariant-loop-g l = (length l.s ≡ length l.initial.s) × (l.s ≡ no_guests (l.g - 1) l.initial.s)
