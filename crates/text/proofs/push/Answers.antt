-- A copy of the whole text is the write: `wrote_copy`.
use Rattle.text.proofs.Writes.{wrote_copy}
use borrow.Author.Rules.{rules}
use Rattle.text.proofs.push.Goals as goal

pub returns : goal.returns
returns c = search (rules, wrote_copy)
