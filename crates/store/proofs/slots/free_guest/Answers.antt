use borrow.Author.Rules.{rules}
use borrow.Author.Tests.{tests}
use Rattle.store.specs.Header.{header, is_dead, free_guest}
use Rattle.store.proofs.Ranges.{told_find}
use Rattle.store.proofs.slots.free_guest.Goals as goal

pub returns : goal.returns
unfolding free_guest is_dead
returns c =
    let r = told_find (is_dead c.args.l (header c.args.l c.args.s.now)) c.args.l.guests 1 _ _ _ _ (search rules) (λ x b q k. search (rules, tests)) c.find.ensures.ran in
    search rules
