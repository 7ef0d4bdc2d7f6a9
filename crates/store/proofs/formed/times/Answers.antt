use borrow.Author.Rules.{rules}
use Rattle.store.proofs.Loops.{times_start, times_turn, times_end}
use Rattle.store.proofs.formed.times.Goals as goal

pub loop-b-init : goal.loop-b-init
loop-b-init c = (times_start _ _ _, search rules)

pub loop-b-preserved : goal.loop-b-preserved
loop-b-preserved c = (search (rules, times_turn), search rules)

pub returns : goal.returns
returns c = search (rules, times_end)
