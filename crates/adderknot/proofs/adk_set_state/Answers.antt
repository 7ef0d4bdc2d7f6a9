-- By the flag.
use Rattle.adderknot.proofs.ByFlag.{set_by_giving, set_by_elements}
use borrow.Author.Rules.{rules}
use Rattle.adderknot.proofs.adk_set_state.Goals as goal

pub returns-then-flags-eq-HAND_OVER : goal.returns-then-flags-eq-HAND_OVER
returns-then-flags-eq-HAND_OVER c = search (rules, set_by_giving)

pub returns : goal.returns
returns c = search (rules, set_by_elements)
