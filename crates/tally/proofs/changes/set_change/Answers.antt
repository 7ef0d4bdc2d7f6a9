-- By bit 0, R3 and bit 1: the laws `set-..` of ByAnswer.
use Rattle.tally.proofs.ByAnswer.{set_wide, set_refused, set_handed, set_accepted}
use borrow.Author.Rules.{rules}
use Rattle.tally.proofs.changes.set_change.Goals as goal

pub returns-then-is_wide : goal.returns-then-is_wide
returns-then-is_wide c = search (rules, set_wide)

pub returns-then-r3-ne0 : goal.returns-then-r3-ne0
returns-then-r3-ne0 c = search (rules, set_refused)

pub returns-then-flags-eq-BIT_1 : goal.returns-then-flags-eq-BIT_1
returns-then-flags-eq-BIT_1 c = search (rules, set_handed)

pub returns : goal.returns
returns c = search (rules, set_accepted)
