use Rattle.store.proofs.Converting.{formed_long, word_named, words_none, words_more, words_all}
use mathlib.Core.Path.{refl}
use borrow.Author.Rules.{rules}
use Rattle.store.proofs.conversion.copy_words.Goals as goal

pub loop-a-init : goal.loop-a-init
loop-a-init c = (refl, words_none _ _ _ _)

pub loop-a-preserved : goal.loop-a-preserved
loop-a-preserved c = (search rules, search (rules, words_more))

pub returns : goal.returns
returns c = search (rules, words_all)

pub slot_word-requires : goal.slot_word-requires
slot_word-requires c = search (rules, formed_long)

pub recode-requires : goal.recode-requires
recode-requires c = search (rules, word_named)
