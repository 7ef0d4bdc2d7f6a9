-- By bit 1.
use Rattle.state.proofs.HandOvers.{set_by_giving, set_by_elements}
use borrow.Author.Rules.{rules}
use Rattle.state.proofs.set_state.Goals as goal

pub returns-then-flags-eq-BIT_1 : goal.returns-then-flags-eq-BIT_1
returns-then-flags-eq-BIT_1 c = search (rules, set_by_giving)

pub returns : goal.returns
returns c = search (rules, set_by_elements)
