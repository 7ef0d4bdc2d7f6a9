use Rattle.l1.proofs.Words.{from_hit, from_miss, from_end}
use mathlib.Core.Path.{refl}
use borrow.Author.Rules.{rules}
use Rattle.l1.proofs.marks.mark_from.Goals as goal

pub loop-i-init : goal.loop-i-init
loop-i-init c = refl

pub returns-then-word-ne0 : goal.returns-then-word-ne0
returns-then-word-ne0 c = search (rules, from_hit)

pub loop-i-preserved : goal.loop-i-preserved
loop-i-preserved c = search (rules, from_miss)

pub returns : goal.returns
returns c = search (rules, from_end)
