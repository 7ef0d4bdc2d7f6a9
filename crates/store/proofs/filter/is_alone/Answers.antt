use borrow.Author.Rules.{rules}
use borrow.Author.Tests.{tests}
use Rattle.store.specs.Header.{header, lacks, alone}
use Rattle.store.proofs.Ranges.{told_all}
use Rattle.store.proofs.filter.is_alone.Goals as goal

pub returns : goal.returns
unfolding alone lacks
returns c = told_all (lacks c.args.l (header c.args.l c.args.s.now) c.args.w) c.args.a 0 _ _ _ _ (search rules) (λ x b q k. search (rules, tests)) c.all.ensures.ran
