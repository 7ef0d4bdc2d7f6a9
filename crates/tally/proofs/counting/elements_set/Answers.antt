use borrow.Author.Rules.{rules}
use Rattle.tally.proofs.Counted.{in_short, count_start, count_cut, count_done, count_more}
use Rattle.tally.proofs.counting.elements_set.Goals as goal

pub returns-then-b-lt4 : goal.returns-then-b-lt4
returns-then-b-lt4 c = search (rules, in_short)

pub loop-i-init : goal.loop-i-init
loop-i-init c = (search rules, search rules, search rules, search rules, search rules, count_start _ _)

pub returns-then-b-at : goal.returns-then-b-at
returns-then-b-at c = search (rules, count_cut)

pub loop-i-preserved : goal.loop-i-preserved
loop-i-preserved c = (search rules, search rules, search rules, search rules, search rules, search (rules, count_more))

pub returns : goal.returns
returns c = search (rules, count_done)
