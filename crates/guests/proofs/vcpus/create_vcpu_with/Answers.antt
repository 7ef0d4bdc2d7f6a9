-- By how far the tests came: the laws `vcpu-..` of Answers.
use Rattle.admission.proofs.FirstTests.{past_long, live_few}
use Rattle.admission.proofs.Leaving.{left_with}
use Rattle.guests.proofs.Answers.{vcpu_refused, vcpu_dead, vcpu_high, vcpu_there, vcpu_full, vcpu_made}
use borrow.Author.Rules.{rules}
use mathlib.Core.Bool.{not}
use mathlib.Core.Path.{ap}
use Rattle.guests.proofs.vcpus.create_vcpu_with.Goals as goal

pub returns-in_err-admit : goal.returns-in_err-admit
returns-in_err-admit c = rw (left_with _ _ c.from_residual.ensures.1) (search (rules, vcpu_refused, c.in_err-admit.was))

pub is_live-requires : goal.is_live-requires
is_live-requires c = search (rules, past_long)

pub returns-then-not-is_live : goal.returns-then-not-is_live
returns-then-not-is_live c = search (rules, vcpu_dead)

pub returns-then-vcpu-ge2048 : goal.returns-then-vcpu-ge2048
returns-then-vcpu-ge2048 c = search (rules, vcpu_high)

pub slot_of-requires : goal.slot_of-requires
slot_of-requires c = (search rules, search (rules, past_long))

pub returns-then-is_some : goal.returns-then-is_some
returns-then-is_some c = search (rules, vcpu_there)

pub free_slot-requires : goal.free_slot-requires
free_slot-requires c = (search rules, search (rules, past_long))

pub returns-in_default : goal.returns-in_default
returns-in_default c = search (rules, vcpu_full)

pub with_vcpu-requires : goal.with_vcpu-requires
with_vcpu-requires c = (search (rules, past_long), search rules, live_few _ _ _ _ c.is_live.ensures (ap not c.if-not-is_live.false), search rules)

pub returns : goal.returns
returns c = search (rules, vcpu_made)
