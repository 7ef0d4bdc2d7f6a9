-- Each return is a law of JoinLaws: a count and two copies write the joined buffer.
use borrow.Author.Rules.{rules}
use Rattle.gsb.proofs.JoinLaws.{at_long, at_short, at_written}
use Rattle.gsb.proofs.joining.join_at.Goals as goal

pub returns-then-len-gt65536 : goal.returns-then-len-gt65536
returns-then-len-gt65536 c = search (rules, at_long)

pub returns-then-res-len : goal.returns-then-res-len
returns-then-res-len c = search (rules, at_short)

pub returns : goal.returns
returns c = search (rules, at_written)
