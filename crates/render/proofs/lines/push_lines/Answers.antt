use Rattle.gsb.proofs.Judged.{good_inside}
use Rattle.render.proofs.Listed.{left_start, left_end, left_cut, left_good, left_bad, next_after}
use borrow.Author.Rules.{rules}
use Rattle.render.proofs.lines.push_lines.Goals as goal

pub loop-index-init : goal.loop-index-init
loop-index-init c = (search rules, search rules, search rules, search rules, search (rules, left_start))

pub returns-then-b-offset-lt4 : goal.returns-then-b-offset-lt4
returns-then-b-offset-lt4 c = (search (rules, left_cut), search rules)

pub returns-in_default : goal.returns-in_default
returns-in_default c = (search (rules, left_bad), search rules)

pub loop-index-preserved : goal.loop-index-preserved
loop-index-preserved c = (search (rules, next_after), search (rules, good_inside), search rules, search rules, search (rules, left_good))

pub returns : goal.returns
returns c = (search (rules, left_end), search rules)
