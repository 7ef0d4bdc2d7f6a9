-- The layout is the one that the store's length tells.
use Rattle.guests.proofs.Answers.{guest_sized}
use borrow.Author.Rules.{rules}
use Rattle.guests.proofs.create_guest.Goals as goal

pub returns : goal.returns
returns c = search (rules, guest_sized)
