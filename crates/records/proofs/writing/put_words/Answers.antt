-- Rests on `words_put`: numbers of 64 bits that lie across two words.
use Rattle.records.proofs.Packed.{words_put}
use borrow.Author.Rules.{rules}
use Rattle.records.proofs.writing.put_words.Goals as goal

pub returns : goal.returns
returns c = search (rules, words_put)
