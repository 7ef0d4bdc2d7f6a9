-- The cycle {push_shown}: the last digit stands behind those of the tenth, by the laws of `shown`. The measure is `most`.
use borrow.Author.Rules.{rules}
use Rattle.text.proofs.Writes.{room_one, room_front, room_last, last_fits, wrote_none, wrote_one, wrote_more}
use Rattle.text.proofs.+push_shown.Goals as goal

pub returns-then-most-eq0 : goal.returns-then-most-eq0
returns-then-most-eq0 t c = search (rules, wrote_none)

pub bounds-text-at : goal.bounds-text-at
bounds-text-at t c = search (rules, room_one)

pub returns-then-n-lt10 : goal.returns-then-n-lt10
returns-then-n-lt10 t c = search (rules, wrote_one)

pub push_shown-end-requires : goal.push_shown-end-requires
push_shown-end-requires t c = (search rules, search (rules, room_front))

pub bounds-text-end : goal.bounds-text-end
bounds-text-end t c = search (rules, room_last)

pub overflow_add-result-2 : goal.overflow_add-result-2
overflow_add-result-2 t c = search (rules, last_fits)

pub returns : goal.returns
returns t c = search (rules, wrote_more)
