-- In three writes, which are one (`element_put`).
use Rattle.gsb.proofs.Messages.{element_put}
use borrow.Author.Rules.{rules}
use Rattle.gsb.proofs.write.put_element.Goals as goal

pub returns : goal.returns
returns c = (search rules, search (rules, element_put))
