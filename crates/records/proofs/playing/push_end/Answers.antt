-- The last line, or nothing: `end_stopped`, `end_open`.
use Rattle.records.proofs.Finished.{end_stopped, end_open}
use borrow.Author.Rules.{rules}
use Rattle.records.proofs.playing.push_end.Goals as goal

pub returns-then-stops : goal.returns-then-stops
returns-then-stops c = (end_stopped _ _ c.args.stops c.args.offset _ _ (search rules) c.push_bad.ensures.0, search rules)

pub returns-else-stops : goal.returns-else-stops
returns-else-stops c = (search (rules, end_open), search rules)
