-- The changed mark beside the valid one.
use Rattle.l1.proofs.Values.{kept_changed}
use borrow.Author.Rules.{rules}
use Rattle.l1.proofs.value.change_value.Goals as goal

pub returns : goal.returns
returns c = search (rules, kept_changed)
