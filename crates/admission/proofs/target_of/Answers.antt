-- By how far the tests came: the laws `target-..` of Targets.
use Rattle.admission.proofs.FirstTests.{past_long, live_some, live_few}
use Rattle.admission.proofs.Targets.{target_refused, target_dead, target_wide, target_absent, target_taken, target_slot, held_wide, held_slot}
use Rattle.store.proofs.Sizes.{sized_sound}
use Rattle.std.proofs.Common.{◌≡◌, length}
use Rattle.admission.proofs.Leaving.{left_with}
use borrow.Author.Rules.{rules}
use Rattle.admission.proofs.target_of.Goals as goal

pub returns-in_err-admit : goal.returns-in_err-admit
returns-in_err-admit c = rw (← c.layout_of-l.ensures, left_with _ _ c.from_residual.ensures.1) record { value = search (rules, target_refused, c.in_err-admit.was); held = tt }

pub is_live-requires : goal.is_live-requires
is_live-requires c = search (rules, past_long)

pub returns-then-not-is_live : goal.returns-then-not-is_live
returns-then-not-is_live c = rw (← c.layout_of-l.ensures) record { value = search (rules, target_dead); held = tt }

pub guest_at-requires : goal.guest_at-requires
guest_at-requires c = (search (rules, live_some), search (rules, live_few))

pub returns-then-wide : goal.returns-then-wide
returns-then-wide c = rw (← c.layout_of-l.ensures) record { value = search (rules, target_wide); held = let long : length c.args.store.now ≡ c.layout_of-l.result.size = search (rules, past_long) in held_wide _ _ _ _ long c.if-wide.true c.guest_at.ensures.2 (sized_sound _ _ c.layout_of-l.ensures) }

pub slot_of-requires : goal.slot_of-requires
slot_of-requires c = (search rules, search (rules, past_long))

pub returns-in_default : goal.returns-in_default
returns-in_default c = rw (← c.layout_of-l.ensures) record { value = search (rules, target_absent); held = tt }

pub is_taken-requires : goal.is_taken-requires
is_taken-requires c = (search (rules, past_long), search rules)

pub returns-then-is_taken : goal.returns-then-is_taken
returns-then-is_taken c = rw (← c.layout_of-l.ensures) record { value = search (rules, target_taken); held = tt }

pub slot_at-requires : goal.slot_at-requires
slot_at-requires c = search rules

pub returns : goal.returns
returns c = rw (← c.layout_of-l.ensures) record { value = search (rules, target_slot); held = search (rules, held_slot, past_long) }
