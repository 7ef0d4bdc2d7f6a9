use Rattle.store.proofs.Writes.{drop_start, drop_turn, drop_end}
use mathlib.Core.Path.{refl}
use borrow.Author.Rules.{rules}
use Rattle.store.proofs.removal.drop_words.Goals as goal

pub loop-a-init : goal.loop-a-init
loop-a-init c = (refl, drop_start _ _ _)

pub loop-a-preserved : goal.loop-a-preserved
loop-a-preserved c = (search rules, search (rules, drop_turn))

pub returns : goal.returns
returns c = search (rules, drop_end)
