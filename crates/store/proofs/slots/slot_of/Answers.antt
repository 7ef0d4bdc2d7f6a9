-- Each return is a law of `slot_of`.
use native.Mathlib.Omega.{arith}
use Rattle.store.proofs.Tests.{of_none, of_found, live_small}
use Rattle.store.proofs.Sizes.{sized_sound}
use mathlib.Core.Path.{ap}
use Rattle.store.specs.declared.Layout.{Layout}
use borrow.Author.Rules.{rules}
use Rattle.store.proofs.slots.slot_of.Goals as goal

pub is_live-requires : goal.is_live-requires
is_live-requires c = search rules

pub returns-then-not-is_live-clause-slot : goal.returns-then-not-is_live-clause-slot
returns-then-not-is_live-clause-slot c = search (rules, of_none)

pub overflow_add-l-inside : goal.overflow_add-l-inside
overflow_add-l-inside c = omega (arith, live_small _ _ _ _ (sized_sound _ _ c.requires.0) c.is_live.ensures c.if-not-is_live.false, (sized_sound _ _ c.requires.0).few_ids, ap (λ (x : Layout). x.ids) c.l.view_is)

pub overflow_mul-l-inside : goal.overflow_mul-l-inside
overflow_mul-l-inside c = omega (arith, live_small _ _ _ _ (sized_sound _ _ c.requires.0) c.is_live.ensures c.if-not-is_live.false, (sized_sound _ _ c.requires.0).few_ids, ap (λ (x : Layout). x.ids) c.l.view_is)

pub overflow_add-l-inside-2 : goal.overflow_add-l-inside-2
overflow_add-l-inside-2 c = omega (arith, live_small _ _ _ _ (sized_sound _ _ c.requires.0) c.is_live.ensures c.if-not-is_live.false, (sized_sound _ _ c.requires.0).few_ids, ap (λ (x : Layout). x.ids) c.l.view_is)

pub slot_holding-requires : goal.slot_holding-requires
slot_holding-requires c = (search rules, search rules, omega (arith, live_small _ _ _ _ (sized_sound _ _ c.requires.0) c.is_live.ensures c.if-not-is_live.false, ap (λ (x : Layout). x.ids) c.l.view_is))

pub returns-clause-slot : goal.returns-clause-slot
returns-clause-slot c = search (rules, of_found)
