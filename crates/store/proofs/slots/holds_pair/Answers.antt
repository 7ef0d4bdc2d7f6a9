-- Rests on `pair_told`: two numbers are told apart by their swapped forms.
use borrow.Author.Rules.{rules}
use Rattle.store.proofs.Readings.{pair_told}
use Rattle.store.proofs.slots.holds_pair.Goals as goal

pub returns : goal.returns
returns c = search (rules, pair_told)
