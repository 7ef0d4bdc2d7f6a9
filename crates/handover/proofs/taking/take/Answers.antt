-- Rests on `all_taken`: the values, and the head before them, make the form.
use borrow.Author.Rules.{rules}
use Rattle.handover.proofs.Taken.{all_taken}
use Rattle.handover.proofs.taking.take.Goals as goal

pub returns : goal.returns
returns c = search (rules, all_taken)
