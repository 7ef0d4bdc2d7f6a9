-- The code is the definition. Nothing else opens it.
use Rattle.store.specs.Filter.{hash_of}
use borrow.Author.Rules.{rules}
use Rattle.store.proofs.filter.hash.Goals as goal

pub returns : goal.returns
returns c = (unfold hash_of in search rules, search rules)
