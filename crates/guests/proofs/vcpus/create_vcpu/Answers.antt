-- The layout is the one that the store's length tells.
use Rattle.guests.proofs.Answers.{vcpu_sized}
use borrow.Author.Rules.{rules}
use Rattle.guests.proofs.vcpus.create_vcpu.Goals as goal

pub returns : goal.returns
returns c = search (rules, vcpu_sized)
