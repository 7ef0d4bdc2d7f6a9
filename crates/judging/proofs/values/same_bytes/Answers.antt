use Rattle.judging.proofs.Bytewise.{same_start, same_more, same_differ, same_end}
use borrow.Author.Rules.{rules}
use Rattle.judging.proofs.values.same_bytes.Goals as goal

pub loop-i-init : goal.loop-i-init
loop-i-init c = same_start _ _ _ _

pub returns-then-a-x : goal.returns-then-a-x
returns-then-a-x c = search (rules, same_differ)

pub loop-i-preserved : goal.loop-i-preserved
loop-i-preserved c = same_more _ _ _ _ _ c.loop-i.invariant c.if-a-x.false (search rules) (search rules)

pub returns : goal.returns
returns c = search (rules, same_end)
