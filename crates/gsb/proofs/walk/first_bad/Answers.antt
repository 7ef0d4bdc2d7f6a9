use Rattle.gsb.proofs.Walks.{first_start}
use Rattle.gsb.proofs.Judged.{good_inside}
use Rattle.gsb.proofs.Registers.{reach_lent, first_none, skip_end, skip_good, skip_bad}
use borrow.Author.Rules.{rules}
use Rattle.gsb.proofs.walk.first_bad.Goals as goal

pub returns-then-count-eq0 : goal.returns-then-count-eq0
returns-then-count-eq0 c = search (rules, first_none)

pub walk-init : goal.walk-init
walk-init c = (search rules, search rules, search (rules, first_start))

pub skip-here-requires : goal.skip-here-requires
skip-here-requires c = (search rules, search rules, search (rules, reach_lent))

pub walk-preserved : goal.walk-preserved
walk-preserved c = (search rules, search (rules, good_inside), search (rules, skip_good))

pub returns-then-count-here : goal.returns-then-count-here
returns-then-count-here c = search (rules, skip_end)

pub returns : goal.returns
returns c = search (rules, skip_bad)
