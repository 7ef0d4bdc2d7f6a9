-- The number, and the space behind it: `wrote_then`.
use Rattle.text.proofs.Writes.{wrote_then}
use borrow.Author.Rules.{rules}
use Rattle.text.proofs.push_field.Goals as goal

pub returns : goal.returns
returns c = (search (rules, wrote_then), search rules)
