-- Rests on what the logic says of leading zeros.
use borrow.Author.Rules.{rules}
use Rattle.handover.proofs.Presence.{top_fits, top_under, top_below, top_reached, top_not_passed}
use Rattle.handover.proofs.giving.top_digit.Goals as goal

pub overflow_cast-result : goal.overflow_cast-result
overflow_cast-result c = search (rules, top_fits)

pub overflow_sub-result : goal.overflow_sub-result
overflow_sub-result c = search (rules, top_under)

pub returns : goal.returns
returns c = (search (rules, top_below), search (rules, top_reached), search (rules, top_not_passed))
