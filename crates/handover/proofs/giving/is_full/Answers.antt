-- Rests on `full_test`: the word of n ones.
use borrow.Author.Rules.{rules}
use Rattle.handover.proofs.Presence.{full_test}
use Rattle.handover.proofs.giving.is_full.Goals as goal

pub returns : goal.returns
returns c = search (rules, full_test)
