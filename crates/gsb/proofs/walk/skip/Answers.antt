use Rattle.gsb.proofs.Registers.{left_start, left_next, skipped}
use borrow.Author.Rules.{rules}
use Rattle.gsb.proofs.walk.skip.Goals as goal

pub loop-i-init : goal.loop-i-init
loop-i-init c = (search rules, left_start _ _ _ _ _)

pub returns-in_default : goal.returns-in_default
returns-in_default c = search (rules, skipped)

pub loop-i-preserved : goal.loop-i-preserved
loop-i-preserved c = (search rules, left_next _ _ _ _ c.args.from c.loop-i.i c.loop-i.at _ c.loop-i.invariant.1 c.loop-i-test.true c.in-Some.ensures)

pub returns : goal.returns
returns c = search (rules, skipped)
