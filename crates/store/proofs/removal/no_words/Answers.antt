use Rattle.store.proofs.Writes.{words_none, words_more, words_all}
use mathlib.Core.Path.{refl}
use borrow.Author.Rules.{rules}
use Rattle.store.proofs.removal.no_words.Goals as goal

pub loop-a-init : goal.loop-a-init
loop-a-init c = (refl, words_none _ _)

pub loop-a-preserved : goal.loop-a-preserved
loop-a-preserved c = (search rules, search (rules, words_more))

pub returns : goal.returns
returns c = search (rules, words_all)
