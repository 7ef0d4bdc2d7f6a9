-- By bit 0: the laws `get-..` of ByAnswer.
use Rattle.tally.proofs.ByAnswer.{get_wide, get_thread_lem}
use borrow.Author.Rules.{rules}
use Rattle.tally.proofs.changes.get_change.Goals as goal

pub returns-then-is_wide : goal.returns-then-is_wide
returns-then-is_wide c = search (rules, get_wide)

pub returns : goal.returns
returns c = search (rules, get_thread_lem)
