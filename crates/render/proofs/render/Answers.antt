-- The three parts of a listing one behind the other; their bounds add up to less than `room`.
use Rattle.gsb.proofs.Walks.{long_enough}
use Rattle.render.proofs.Listed.{short_enough, rendered_short, rendered_length, rendered_all}
use borrow.Author.Rules.{rules}
use Rattle.render.proofs.render.Goals as goal

pub returns-then-text-lt-ROOM : goal.returns-then-text-lt-ROOM
returns-then-text-lt-ROOM c = record { fact = search (rules, rendered_short); within = search rules }

pub returns-then-bad_length : goal.returns-then-bad_length
returns-then-bad_length c = record { fact = search (rules, rendered_length); within = search rules }

pub push_first-first-requires : goal.push_first-first-requires
push_first-first-requires c = (search (rules, long_enough), search (rules, short_enough), search rules)

pub push_lines-then-requires : goal.push_lines-then-requires
push_lines-then-requires c = (search (rules, long_enough), search (rules, short_enough), search rules)

pub push_answer-requires : goal.push_answer-requires
push_answer-requires c = (search (rules, long_enough), search rules)

pub returns : goal.returns
returns c = record { fact = search (rules, rendered_all); within = search rules }
