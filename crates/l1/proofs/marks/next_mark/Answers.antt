-- What is left of the word, else the next words (`next_hit`, `next_miss`).
use Rattle.l1.proofs.Words.{next_hit, next_miss}
use borrow.Author.Rules.{rules}
use Rattle.l1.proofs.marks.next_mark.Goals as goal

pub returns-then-x-ne0 : goal.returns-then-x-ne0
returns-then-x-ne0 c = search (rules, next_hit)

pub returns : goal.returns
returns c = search (rules, next_miss)
