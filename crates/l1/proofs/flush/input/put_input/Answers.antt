-- The count of the changed marks, then their elements (`input_put`).
use Rattle.l1.proofs.Pending.{input_count, input_room, input_put}
use borrow.Author.Rules.{rules}
use Rattle.l1.proofs.flush.input.put_input.Goals as goal

pub put32-requires : goal.put32-requires
put32-requires c = search (rules, input_count)

pub put_changed-requires : goal.put_changed-requires
put_changed-requires c = (search rules, search (rules, input_room))

pub returns : goal.returns
returns c = search (rules, input_put)
