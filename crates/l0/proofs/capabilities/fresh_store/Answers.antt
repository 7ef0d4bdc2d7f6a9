-- By the length: the laws `fresh-..` of Answers.
use Rattle.l0.proofs.Answers.{fresh_refused, fresh_made}
use Rattle.std.proofs.Common.{rules}
use Rattle.l0.proofs.capabilities.fresh_store.Goals as goal

pub returns-then-store-l : goal.returns-then-store-l
returns-then-store-l c = search (rules, fresh_refused)

pub returns : goal.returns
returns c = search (rules, fresh_made)
