use Rattle.judging.proofs.Marked.{mark_begin, mark_hit, mark_more, mark_end}
use borrow.Author.Rules.{rules}
use Rattle.judging.proofs.marks.first_unmarked.Goals as goal

pub loop-j-init : goal.loop-j-init
loop-j-init c = mark_begin _ _

pub loop-j-preserved : goal.loop-j-preserved
loop-j-preserved c = search (rules, mark_more)

pub returns : goal.returns
returns c = search (rules, mark_end)

pub returns-then-seen-j-eq0 : goal.returns-then-seen-j-eq0
returns-then-seen-j-eq0 c = mark_hit _ _ _ c.loop-j.invariant c.loop-j-test.true c.if-seen-j-eq0.true
