-- The test of each slot, counted: `words_counted`.
use mathlib.Core.Path.{sym, ◌∙◌}
use borrow.Author.Rules.{rules}
use Rattle.store.specs.Header.{header}
use Rattle.store.specs.Private.{slot_counted}
use Rattle.store.proofs.Counted.{words_counted}
use Rattle.store.proofs.Ranges.{told_all}
use Rattle.store.proofs.formed.words_counted.Goals as goal

pub returns : goal.returns
returns c = told_all (slot_counted c.args.l (header c.args.l c.args.s.now)) c.args.l.slots 0 _ _ _ _ (search rules) (λ x b q k. search rules) c.all.ensures.ran ∙ sym (words_counted c.args.l (header c.args.l c.args.s.now))
