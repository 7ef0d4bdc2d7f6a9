-- By how far the tests came: the laws `clock-..` of Answers.
use Rattle.std.proofs.Common.{arith, rules}
use Rattle.store.proofs.Sizes.{sized_sound}
use Rattle.admission.proofs.FirstTests.{good_long, live_few, live_some}
use Rattle.l0.proofs.Answers.{clock_store, clock_dead, clock_told}
use mathlib.Core.Bool.{not}
use mathlib.Core.Path.{ap}
use Rattle.l0.proofs.clock.try_guest_clock.Goals as goal

pub returns-then-not-well_formed : goal.returns-then-not-well_formed
returns-then-not-well_formed c = rw (← c.layout_of-l.ensures) (search (rules, clock_store))

pub is_live-requires : goal.is_live-requires
is_live-requires c = search (rules, good_long)

pub returns-then-not-is_live : goal.returns-then-not-is_live
returns-then-not-is_live c = rw (← c.layout_of-l.ensures) (search (rules, clock_dead))

pub guest_at-requires : goal.guest_at-requires
guest_at-requires c = (search (rules, live_some), search (rules, live_few))

pub get64-offset-requires : goal.get64-offset-requires
get64-offset-requires c = let so = sized_sound _ _ c.layout_of-l.ensures in omega (arith, c.guest_at.ensures.2, so.whole, good_long _ _ _ c.well_formed-2.ensures (ap not c.if-not-well_formed.false))

pub returns : goal.returns
returns c = rw (← c.layout_of-l.ensures) (search (rules, clock_told))
