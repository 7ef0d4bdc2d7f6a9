-- Each arm is a line of the table of calls: the laws `call-..` of ByNumber.
use Rattle.std.proofs.Common.{rules}
use Rattle.l0.proofs.ByNumber.{call_get_capabilities, call_set_capabilities, call_create_guest, call_create_vcpu, call_get_state, call_set_state, call_run, call_delete, call_other}
use Rattle.l0.proofs.numbered.call.Goals as goal

pub returns-in-Some-GetCapabilities : goal.returns-in-Some-GetCapabilities
returns-in-Some-GetCapabilities c = search (rules, call_get_capabilities)

pub returns-in-Some-SetCapabilities : goal.returns-in-Some-SetCapabilities
returns-in-Some-SetCapabilities c = search (rules, call_set_capabilities)

pub returns-in-Some-CreateGuest : goal.returns-in-Some-CreateGuest
returns-in-Some-CreateGuest c = search (rules, call_create_guest)

pub returns-in-Some-CreateVcpu : goal.returns-in-Some-CreateVcpu
returns-in-Some-CreateVcpu c = search (rules, call_create_vcpu)

pub returns-in-Some-GetState : goal.returns-in-Some-GetState
returns-in-Some-GetState c = search (rules, call_get_state)

pub returns-in-Some-SetState : goal.returns-in-Some-SetState
returns-in-Some-SetState c = search (rules, call_set_state)

pub returns-in-Some-RunVcpu : goal.returns-in-Some-RunVcpu
returns-in-Some-RunVcpu c = search (rules, call_run)

pub returns-in-Some-DeleteGuest : goal.returns-in-Some-DeleteGuest
returns-in-Some-DeleteGuest c = search (rules, call_delete)

pub returns-in-None : goal.returns-in-None
returns-in-None c = search (rules, call_other)
