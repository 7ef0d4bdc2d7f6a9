-- By how far the tests came: the laws `delete-..` of Answers.
use Rattle.admission.proofs.FirstTests.{past_long, live_few, live_some}
use Rattle.admission.proofs.Leaving.{left_with}
use Rattle.guests.proofs.Answers.{delete_refused, delete_all, delete_dead, delete_one}
use borrow.Author.Rules.{rules}
use mathlib.Core.Bool.{not}
use mathlib.Core.Path.{ap}
use Rattle.guests.proofs.delete_guest_with.Goals as goal

pub returns-in_err-admit : goal.returns-in_err-admit
returns-in_err-admit c = rw (left_with _ _ c.from_residual.ensures.1) (search (rules, delete_refused, c.in_err-admit.was))

pub without_guests-requires : goal.without_guests-requires
without_guests-requires c = search (rules, past_long)

pub returns-then-is_wide : goal.returns-then-is_wide
returns-then-is_wide c = search (rules, delete_all)

pub is_live-requires : goal.is_live-requires
is_live-requires c = search (rules, past_long)

pub returns-then-not-is_live : goal.returns-then-not-is_live
returns-then-not-is_live c = search (rules, delete_dead)

pub without_guest-requires : goal.without_guest-requires
without_guest-requires c = (search (rules, past_long), live_some _ _ _ _ c.is_live.ensures (ap not c.if-not-is_live.false), live_few _ _ _ _ c.is_live.ensures (ap not c.if-not-is_live.false))

pub returns : goal.returns
returns c = search (rules, delete_one)
