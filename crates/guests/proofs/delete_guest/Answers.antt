-- The layout is the one that the store's length tells.
use Rattle.guests.proofs.Answers.{delete_sized}
use borrow.Author.Rules.{rules}
use Rattle.guests.proofs.delete_guest.Goals as goal

pub returns : goal.returns
returns c = search (rules, delete_sized)
