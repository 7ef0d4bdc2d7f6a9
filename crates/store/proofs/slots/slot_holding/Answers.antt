-- By the size: the laws of Sizes.
use Rattle.store.proofs.Sizes.{small_pair, small_long, large_long, small_word, small_held, large_held, small_few, large_few}
use mathlib.Core.Path.{subst}
use Prim.Native.Nat.{◌≤◌, ◌<◌}
use Rattle.store.specs.declared.Layout.{Layout}
use borrow.Author.Rules.{rules}
use Rattle.store.proofs.slots.slot_holding.Goals as goal

pub pair_holding-requires : goal.pair_holding-requires
pair_holding-requires c = (search (rules, small_long, subst (λ (x : Layout). x.slots ≤ 16) c.l.view_is c.if-l-le16.true), search (rules, small_word, subst (λ (x : Layout). x.slots ≤ 16) c.l.view_is c.if-l-le16.true), search (rules, small_pair))

pub returns-then-l-le16-clause-slot : goal.returns-then-l-le16-clause-slot
returns-then-l-le16-clause-slot c = search (rules, small_held, subst (λ (x : Layout). x.slots ≤ 16) c.l.view_is c.if-l-le16.true)

pub returns-then-l-le16-clause-below : goal.returns-then-l-le16-clause-below
returns-then-l-le16-clause-below c = small_few _ _ c.requires.0 _ _ (subst (λ (x : Layout). x.slots ≤ 16) c.l.view_is c.if-l-le16.true) c.small_layout.ensures c.pair_holding.ensures.below

pub bits_holding-requires : goal.bits_holding-requires
bits_holding-requires c = search (rules, large_long, subst (λ (x : Layout). 16 < x.slots) c.l.view_is c.if-l-le16.false)

pub returns-clause-slot : goal.returns-clause-slot
returns-clause-slot c = search (rules, large_held, subst (λ (x : Layout). 16 < x.slots) c.l.view_is c.if-l-le16.false)

pub returns-clause-below : goal.returns-clause-below
returns-clause-below c = large_few _ _ c.requires.0 _ _ (subst (λ (x : Layout). 16 < x.slots) c.l.view_is c.if-l-le16.false) c.large_layout.ensures c.bits_holding.ensures.below
