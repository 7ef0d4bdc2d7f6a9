-- The mark, the slot word, then the values: `vcpu_made`.
use Rattle.store.proofs.Writes.{vcpu_made}
use borrow.Author.Rules.{rules}
use Rattle.store.proofs.update.with_vcpu.Goals as goal

pub returns : goal.returns
returns c = search (rules, vcpu_made)
