-- By bit 1.
use Rattle.state.proofs.HandOvers.{got_taken, got_elements}
use borrow.Author.Rules.{rules}
use Rattle.state.proofs.get_state.Goals as goal

pub returns-then-flags-eq-BIT_1 : goal.returns-then-flags-eq-BIT_1
returns-then-flags-eq-BIT_1 c = search (rules, got_taken)

pub returns : goal.returns
returns c = search (rules, got_elements)
