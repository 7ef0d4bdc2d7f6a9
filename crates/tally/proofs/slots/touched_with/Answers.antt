-- Each arm is a line of the table: the laws `touch-..` of ByKind.
use Rattle.tally.proofs.ByKind.{touch_create, touch_named, touch_delete, touch_early, touch_other}
use Rattle.tally.specs.Private.{touched_by}
use borrow.Author.Rules.{rules}
use Rattle.tally.proofs.slots.touched_with.Goals as goal

pub returns-in-Some-CreateVcpu : goal.returns-in-Some-CreateVcpu
returns-in-Some-CreateVcpu c = search (rules, touch_create)

pub returns-in-Some-GetState : goal.returns-in-Some-GetState
unfolding touched_by
returns-in-Some-GetState c = search (rules, touch_named)

pub returns-in-Some-DeleteGuest : goal.returns-in-Some-DeleteGuest
returns-in-Some-DeleteGuest c = search (rules, touch_delete)

pub returns-in-Some-GetCapabilities : goal.returns-in-Some-GetCapabilities
unfolding touched_by
returns-in-Some-GetCapabilities c = search (rules, touch_early)

pub returns-in-Some-GetCapabilities-2 : goal.returns-in-Some-GetCapabilities-2
unfolding touched_by
returns-in-Some-GetCapabilities-2 c = search (rules, touch_other)
