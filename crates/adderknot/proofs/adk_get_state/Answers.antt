-- By the flag.
use Rattle.adderknot.proofs.ByFlag.{got_by_taking, got_by_elements}
use borrow.Author.Rules.{rules}
use Rattle.adderknot.proofs.adk_get_state.Goals as goal

pub returns-then-flags-eq-HAND_OVER : goal.returns-then-flags-eq-HAND_OVER
returns-then-flags-eq-HAND_OVER c = search (rules, got_by_taking)

pub returns : goal.returns
returns c = search (rules, got_by_elements)
