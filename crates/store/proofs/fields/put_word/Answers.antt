-- Two bytes, or the word's bits within four: `pair_put`, `word_put`.
use Rattle.store.proofs.Readings.{times_fits, place_fits, word_room}
use Rattle.store.proofs.Writes.{pair_fits, pair_put, word_fits, word_put}
use borrow.Author.Rules.{rules}
use Rattle.store.proofs.fields.put_word.Goals as goal

pub overflow_cast-w : goal.overflow_cast-w
overflow_cast-w c = record { fits = search (rules, pair_fits) }

pub returns-then-l-eq16 : goal.returns-then-l-eq16
returns-then-l-eq16 c = search (rules, pair_put)

pub put_bits-requires : goal.put_bits-requires
put_bits-requires c = (search (rules, word_room), search rules, search (rules, word_fits))

pub returns : goal.returns
returns c = search (rules, word_put)
