-- Three texts one behind the other: `wrote_bad`.
use Rattle.records.proofs.Turns.{wrote_bad}
use borrow.Author.Rules.{rules}
use Rattle.records.proofs.lines.push_bad.Goals as goal

pub returns : goal.returns
returns c = (search (rules, wrote_bad), search rules)
