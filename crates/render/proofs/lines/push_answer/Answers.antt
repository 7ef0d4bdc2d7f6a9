-- The last line, once the walk's end is known: `wrote_done`, `wrote_stopped`.
use Rattle.render.proofs.Listed.{wrote_done, wrote_stopped}
use borrow.Author.Rules.{rules}
use Rattle.render.proofs.lines.push_answer.Goals as goal

pub returns-in-Ok : goal.returns-in-Ok
returns-in-Ok c = (search (rules, wrote_done), search rules)

pub returns-in-Err : goal.returns-in-Err
returns-in-Err c = (search (rules, wrote_stopped), search rules)
