use borrow.Author.Rules.{rules}
use Rattle.store.specs.Header.{header, holds, slot_holding}
use Rattle.store.proofs.Ranges.{told_find}
use Rattle.store.proofs.slots.pair_holding.Goals as goal

pub returns : goal.returns
unfolding slot_holding
returns c =
    let r = told_find (holds c.args.l (header c.args.l c.args.s.now) c.args.w) c.args.l.slots 0 _ _ _ _ (search rules) (λ x b q k. search rules) c.find.ensures.ran in
    search rules
