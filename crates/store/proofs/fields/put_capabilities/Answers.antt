-- By what `put64` writes.
use Rattle.store.proofs.Writes.{caps_put}
use borrow.Author.Rules.{rules}
use Rattle.store.proofs.fields.put_capabilities.Goals as goal

pub returns : goal.returns
returns c = search (rules, caps_put)
