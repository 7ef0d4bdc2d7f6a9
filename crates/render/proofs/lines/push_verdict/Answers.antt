-- The verdict's text, once the verdict is known.
use Rattle.render.proofs.Listed.{wrote_ok, wrote_bad}
use borrow.Author.Rules.{rules}
use Rattle.render.proofs.lines.push_verdict.Goals as goal

pub returns-in-Ok : goal.returns-in-Ok
returns-in-Ok c = (search (rules, wrote_ok), search rules)

pub returns-in-Err : goal.returns-in-Err
returns-in-Err c = (search (rules, wrote_bad), search rules)
