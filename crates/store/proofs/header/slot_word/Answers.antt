-- Two bytes, or the word's bits within four: `pair_read`, `word_read`.
use Rattle.store.proofs.Readings.{times_fits, place_fits, word_room, word_read, word_lt, pair_read, pair_lt}
use mathlib.Core.Path.{subst}
use Prim.Native.Nat.{◌*◌, ◌<◌}
use Rattle.store.specs.declared.Layout.{Layout}
use borrow.Author.Rules.{rules}
use Rattle.store.proofs.header.slot_word.Goals as goal

pub returns-then-l-eq16 : goal.returns-then-l-eq16
returns-then-l-eq16 c = (search (rules, pair_read), search (rules, pair_lt))

pub get_bits-requires : goal.get_bits-requires
get_bits-requires c = (search (rules, word_room), search rules, search rules)

pub returns : goal.returns
returns c = (search (rules, word_read), subst (λ (x : Layout). c.get_bits.result < 4096 * x.ids) c.l.view_is (search (rules, word_lt (record { guests = c.l.inside.guests; zeros = c.l.inside.zeros; slots = c.l.inside.slots; ids = c.l.inside.ids; width = c.l.inside.width; words_at = c.l.inside.words_at; taken_at = c.l.inside.taken_at; guests_at = c.l.inside.guests_at; slots_at = c.l.inside.slots_at; size = c.l.inside.size }))))
