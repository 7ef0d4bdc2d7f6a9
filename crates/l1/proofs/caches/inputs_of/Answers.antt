-- One of two constants.
use Rattle.l1.proofs.Marking.{words_full, words_power9}
use borrow.Author.Rules.{rules}
use Rattle.l1.proofs.caches.inputs_of.Goals as goal

pub returns-in-Full : goal.returns-in-Full
returns-in-Full c = search (rules, words_full)

pub returns-in-Power9 : goal.returns-in-Power9
returns-in-Power9 c = search (rules, words_power9)
