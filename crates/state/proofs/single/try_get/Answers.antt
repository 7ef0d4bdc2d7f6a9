-- By the target (`one_turned`, `one_got`).
use Rattle.admission.proofs.Leaving.{left_with}
use Rattle.admission.proofs.Targets.{found_low, found_high, held_size, held_vcpu}
use Rattle.state.proofs.Buffers.{context_use}
use Rattle.state.proofs.Elements.{one_turned, one_kept, one_got, one_bytes}
use borrow.Author.Rules.{rules}
use Rattle.state.proofs.single.try_get.Goals as goal

pub context_of-k-requires : goal.context_of-k-requires
context_of-k-requires c = (search (rules, held_size), search (rules, found_low), search (rules, found_high))

pub get_one-requires : goal.get_one-requires
get_one-requires c = record { id_value = search rules; usage_value = (search (rules, context_use), search (rules, held_vcpu)) }

pub returns-in_err-base : goal.returns-in_err-base
returns-in_err-base c = rw (left_with _ _ c.from_residual.ensures.1) record { value = search (rules, one_turned, c.in_err-base.was); value_after = search (rules, one_kept, c.in_err-base.was) }

pub returns : goal.returns
returns c = record { value = search (rules, one_got, c.in_ok-base.was); value_after = search (rules, one_bytes, c.in_ok-base.was) }
