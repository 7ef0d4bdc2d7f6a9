-- Three writes, one behind the other (`run_left`).
use Rattle.run.proofs.Runs.{ready_after, room_after, run_left}
use borrow.Author.Rules.{rules}
use Rattle.run.proofs.entry.run_at.Goals as goal

pub apply-requires-2 : goal.apply-requires-2
apply-requires-2 c = search (rules, ready_after)

pub put_output-requires : goal.put_output-requires
put_output-requires c = (search rules, search (rules, room_after), search rules)

pub returns : goal.returns
returns c = search (rules, run_left)
