-- A free slot holds the word 0.
use Rattle.store.proofs.Tests.{free_is}
use native.Mathlib.Omega.{arith}
use Rattle.store.proofs.Sizes.{sized_sound}
use borrow.Author.Rules.{rules}
use Rattle.store.proofs.slots.free_slot.Goals as goal

pub slot_holding-requires : goal.slot_holding-requires
slot_holding-requires c = (search rules, search rules, omega (arith, (sized_sound _ _ c.requires.0).nameable))

pub returns-clause-slot : goal.returns-clause-slot
returns-clause-slot c = search (rules, free_is)
