-- The laws `guest-..` of Touching.
use borrow.Author.Rules.{rules}
use Rattle.tally.proofs.Touching.{guest_none, guest_some}
use Rattle.tally.proofs.slots.guest_of.Goals as goal

pub returns-then-named-l : goal.returns-then-named-l
returns-then-named-l c = search (rules, guest_none)

pub returns : goal.returns
returns c = search (rules, guest_some)
