-- Each arm is a line of the table: the laws `change-..` of ByKind.
use Rattle.tally.proofs.ByKind.{change_renewal, change_get, change_set, change_run, change_early, change_other}
use borrow.Author.Rules.{rules}
use Rattle.tally.proofs.changes.change_for.Goals as goal

pub returns-in-Some-CreateVcpu : goal.returns-in-Some-CreateVcpu
returns-in-Some-CreateVcpu c = search (rules, change_renewal)

pub returns-in-Some-GetState : goal.returns-in-Some-GetState
returns-in-Some-GetState c = search (rules, change_get)

pub returns-in-Some-SetState : goal.returns-in-Some-SetState
returns-in-Some-SetState c = search (rules, change_set)

pub returns-in-Some-RunVcpu : goal.returns-in-Some-RunVcpu
returns-in-Some-RunVcpu c = search (rules, change_run)

pub returns-in-Some-GetCapabilities : goal.returns-in-Some-GetCapabilities
returns-in-Some-GetCapabilities c = search (rules, change_early)

pub returns-in-Some-GetCapabilities-2 : goal.returns-in-Some-GetCapabilities-2
returns-in-Some-GetCapabilities-2 c = search (rules, change_other)
