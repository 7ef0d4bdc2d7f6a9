-- Each kind's answer, store and pieces are those of its entry.
use Rattle.adderknot.proofs.ByFlag.{got_by_taking, got_by_elements, set_by_giving, set_by_elements}
use Rattle.adderknot.proofs.ByKind.{by_get_capabilities, by_set_capabilities, by_create_guest, by_create_vcpu, by_get_state, by_set_state, by_run_vcpu, by_delete_guest, by_none}
use borrow.Author.Rules.{rules}
use Rattle.adderknot.proofs.adk_call.Goals as goal

pub returns-then-flags-eq-HAND_OVER : goal.returns-then-flags-eq-HAND_OVER
returns-then-flags-eq-HAND_OVER c = search (rules, by_get_state, got_by_taking)

pub returns-then-flags-eq-HAND_OVER-2 : goal.returns-then-flags-eq-HAND_OVER-2
returns-then-flags-eq-HAND_OVER-2 c = search (rules, by_set_state, set_by_giving)

pub returns-in-Some-GetCapabilities : goal.returns-in-Some-GetCapabilities
returns-in-Some-GetCapabilities c = search (rules, by_get_capabilities)

pub returns-in-Some-SetCapabilities : goal.returns-in-Some-SetCapabilities
returns-in-Some-SetCapabilities c = search (rules, by_set_capabilities)

pub returns-in-Some-CreateGuest : goal.returns-in-Some-CreateGuest
returns-in-Some-CreateGuest c = search (rules, by_create_guest)

pub returns-in-Some-CreateVcpu : goal.returns-in-Some-CreateVcpu
returns-in-Some-CreateVcpu c = search (rules, by_create_vcpu)

pub returns-else-flags-eq-HAND_OVER : goal.returns-else-flags-eq-HAND_OVER
returns-else-flags-eq-HAND_OVER c = search (rules, by_get_state, got_by_elements)

pub returns-else-flags-eq-HAND_OVER-2 : goal.returns-else-flags-eq-HAND_OVER-2
returns-else-flags-eq-HAND_OVER-2 c = search (rules, by_set_state, set_by_elements)

pub returns-in-Some-RunVcpu : goal.returns-in-Some-RunVcpu
returns-in-Some-RunVcpu c = search (rules, by_run_vcpu)

pub returns-in-Some-DeleteGuest : goal.returns-in-Some-DeleteGuest
returns-in-Some-DeleteGuest c = search (rules, by_delete_guest)

pub returns-in-None : goal.returns-in-None
returns-in-None c = search (rules, by_none)
