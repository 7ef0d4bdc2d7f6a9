-- By how far the tests came: the laws `guest-..` of Answers.
use Rattle.admission.proofs.FirstTests.{past_long}
use Rattle.admission.proofs.Leaving.{left_with}
use Rattle.guests.proofs.Answers.{guest_refused, guest_token, guest_full, guest_made}
use borrow.Author.Rules.{rules}
use Rattle.guests.proofs.create_guest_with.Goals as goal

pub returns-in_err-admit : goal.returns-in_err-admit
returns-in_err-admit c = rw (left_with _ _ c.from_residual.ensures.1) (search (rules, guest_refused, c.in_err-admit.was))

pub returns-then-token-ne18446744073709551615 : goal.returns-then-token-ne18446744073709551615
returns-then-token-ne18446744073709551615 c = search (rules, guest_token)

pub free_guest-requires : goal.free_guest-requires
free_guest-requires c = search (rules, past_long)

pub returns-in_default : goal.returns-in_default
returns-in_default c = search (rules, guest_full)

pub with_guest-requires : goal.with_guest-requires
with_guest-requires c = (search (rules, past_long), search rules, search rules)

pub returns : goal.returns
returns c = search (rules, guest_made)
