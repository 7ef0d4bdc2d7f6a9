use Rattle.store.proofs.Converting.{lives_none, lives_more, lives_all}
use mathlib.Core.Path.{refl}
use borrow.Author.Rules.{rules}
use Rattle.store.proofs.conversion.copy_lives.Goals as goal

pub loop-g-init : goal.loop-g-init
loop-g-init c = (refl, lives_none _ _ _)

pub loop-g-preserved : goal.loop-g-preserved
loop-g-preserved c = (search rules, search (rules, lives_more))

pub returns : goal.returns
returns c = search (rules, lives_all)
