use Rattle.store.proofs.Converting.{marks_none, marks_more, marks_all}
use mathlib.Core.Path.{refl}
use borrow.Author.Rules.{rules}
use Rattle.store.proofs.conversion.copy_marks.Goals as goal

pub loop-a-init : goal.loop-a-init
loop-a-init c = (refl, marks_none _ _ _ _)

pub loop-a-preserved : goal.loop-a-preserved
loop-a-preserved c = (search rules, search (rules, marks_more))

pub returns : goal.returns
returns c = search (rules, marks_all)
