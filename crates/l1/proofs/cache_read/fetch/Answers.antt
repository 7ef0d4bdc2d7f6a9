-- By the answer of get state.
use Rattle.l1.proofs.Reading.{readable_permits, readable_some, read_within, read_size, fetch_refused, fetch_kept}
use borrow.Author.Rules.{rules}
use Rattle.l1.proofs.cache_read.fetch.Goals as goal

pub get_element-answer-requires : goal.get_element-answer-requires
get_element-answer-requires c = (search (rules, readable_permits), search (rules, readable_some), search (rules, read_size))

pub returns-then-not-is_accepted : goal.returns-then-not-is_accepted
returns-then-not-is_accepted c = search (rules, fetch_refused)

pub keep_value-requires : goal.keep_value-requires
keep_value-requires c = (search (rules, read_within), search rules)

pub returns : goal.returns
returns c = search fetch_kept
