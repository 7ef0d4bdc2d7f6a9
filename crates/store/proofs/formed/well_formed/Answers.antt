-- The layout is one of two: `small_chosen`, `large_chosen`. Each return is a law of `well_formed`.
use Rattle.store.proofs.Sizes.{small_chosen, large_chosen}
use Rattle.store.proofs.Tests.{head_size, wf_head, wf_words}
use mathlib.Core.Path.{subst}
use Prim.Native.Nat.{◌≤◌, ◌<◌}
use Rattle.store.specs.declared.Layout.{Layout}
use borrow.Author.Rules.{rules}
use Rattle.store.proofs.formed.well_formed.Goals as goal

pub words_counted-requires : goal.words_counted-requires
words_counted-requires c = search (rules, head_size)

pub returns-then-head_formed : goal.returns-then-head_formed
returns-then-head_formed c = small_chosen _ _ c.requires _ (subst (λ (x : Layout). x.slots ≤ 16) c.l.view_is c.if-l-le16.true) (search (rules, wf_words))

pub returns-else-head_formed : goal.returns-else-head_formed
returns-else-head_formed c = small_chosen _ _ c.requires _ (subst (λ (x : Layout). x.slots ≤ 16) c.l.view_is c.if-l-le16.true) (search (rules, wf_head))

pub words_filtered-requires : goal.words_filtered-requires
words_filtered-requires c = search (rules, head_size)

pub returns-then-head_formed-2 : goal.returns-then-head_formed-2
returns-then-head_formed-2 c = large_chosen _ _ c.requires _ (subst (λ (x : Layout). 16 < x.slots) c.l.view_is c.if-l-le16.false) (search (rules, wf_words))

pub returns-else-head_formed-2 : goal.returns-else-head_formed-2
returns-else-head_formed-2 c = large_chosen _ _ c.requires _ (subst (λ (x : Layout). 16 < x.slots) c.l.view_is c.if-l-le16.false) (search (rules, wf_head))
