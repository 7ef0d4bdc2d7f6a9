use Rattle.l1.proofs.Refreshing.{keeps_long, keeps_at, keeps_start, keeps_turn, keeps_end, next_offset}
use Rattle.gsb.proofs.Walks.{offset_start}
use borrow.Author.Rules.{rules}
use Rattle.l1.proofs.flush.output.refresh.Goals as goal

pub get32-count-requires : goal.get32-count-requires
get32-count-requires c = search (rules, keeps_long)

pub loop-i-init : goal.loop-i-init
loop-i-init c = (offset_start _, search (rules, keeps_start))

pub keep_element-at-requires : goal.keep_element-at-requires
keep_element-at-requires c = search (rules, keeps_at)

pub loop-i-preserved : goal.loop-i-preserved
loop-i-preserved c = (search (rules, next_offset), search (rules, keeps_turn, keeps_at))

pub returns : goal.returns
returns c = search (rules, keeps_end)
