-- By the masks of its marks (`word_tells`).
use Rattle.l1.proofs.Marking.{word_tells}
use borrow.Author.Rules.{rules}
use Rattle.l1.proofs.caches.word_good.Goals as goal

pub returns : goal.returns
returns c = search (rules, word_tells)
