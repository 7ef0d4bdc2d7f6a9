use borrow.Author.Rules.{rules}
use borrow.Author.Tests.{tests}
use Rattle.store.specs.Header.{header, live, is_dead, any_live}
use Rattle.store.proofs.Ranges.{told_any}
use Rattle.store.proofs.slots.any_live.Goals as goal

pub returns : goal.returns
unfolding any_live is_dead
returns c = told_any (live c.args.l (header c.args.l c.args.s.now)) c.args.l.guests 1 _ _ _ _ (search rules) (λ x b q k. search (rules, tests)) c.any.ensures.ran
