use borrow.Author.Rules.{rules}
use Rattle.admission.proofs.FirstTests.{good_long}
use Rattle.admission.proofs.Targets.{slot_malformed, slot_dead, slot_absent, slot_found, slot_within}
use Rattle.admission.proofs.vcpu_slot.Goals as goal

pub returns-then-not-well_formed : goal.returns-then-not-well_formed
returns-then-not-well_formed c = rw (← c.layout_of-l.ensures) record { value = search (rules, slot_malformed); within = tt }

pub is_live-requires : goal.is_live-requires
is_live-requires c = search (rules, good_long)

pub returns-then-not-is_live : goal.returns-then-not-is_live
returns-then-not-is_live c = rw (← c.layout_of-l.ensures) record { value = search (rules, slot_dead); within = tt }

pub slot_of-requires : goal.slot_of-requires
slot_of-requires c = (search rules, search (rules, good_long))

pub returns-in_default : goal.returns-in_default
returns-in_default c = rw (← c.layout_of-l.ensures) record { value = search (rules, slot_absent); within = tt }

pub returns : goal.returns
returns c = rw (← c.layout_of-l.ensures) record { value = search (rules, slot_found); within = (search (rules, good_long), search rules, search (rules, slot_within)) }
