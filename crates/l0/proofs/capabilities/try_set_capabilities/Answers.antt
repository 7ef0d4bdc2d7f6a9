-- By how far the tests came: the laws `set-..` of Answers.
use Rattle.admission.proofs.Leaving.{left_with}
use Rattle.admission.proofs.FirstTests.{past_long}
use Rattle.l0.proofs.Answers.{set_refused, set_other, set_in_use, set_stored}
use Rattle.std.proofs.Common.{rules}
use Rattle.l0.proofs.capabilities.try_set_capabilities.Goals as goal

pub returns-in_err-admit : goal.returns-in_err-admit
returns-in_err-admit c = rw (← c.layout_of-l.ensures, left_with _ _ c.from_residual.ensures.1) (search (rules, set_refused, c.in_err-admit.was))

pub returns-then-other_bits-ne0 : goal.returns-then-other_bits-ne0
returns-then-other_bits-ne0 c = rw (← c.layout_of-l.ensures) (search (rules, set_other))

pub in_use-requires : goal.in_use-requires
in_use-requires c = search (rules, past_long)

pub returns-then-in_use : goal.returns-then-in_use
returns-then-in_use c = rw (← c.layout_of-l.ensures) (search (rules, set_in_use))

pub put_capabilities-requires : goal.put_capabilities-requires
put_capabilities-requires c = search (rules, past_long)

pub returns : goal.returns
returns c = rw (← c.layout_of-l.ensures) (search (rules, set_stored))
