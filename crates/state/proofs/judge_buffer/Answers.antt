-- By the buffer's tests (`buffer-..`).
use Rattle.admission.proofs.Leaving.{left_with}
use Rattle.gsb.proofs.Walks.{long_enough}
use Rattle.state.proofs.Buffers.{buffer_length, buffer_bad, buffer_done}
use borrow.Author.Rules.{rules}
use Rattle.state.proofs.judge_buffer.Goals as goal

pub returns-then-bad_length : goal.returns-then-bad_length
returns-then-bad_length c = search (rules, buffer_length)

pub first_bad-requires : goal.first_bad-requires
first_bad-requires c = search (rules, long_enough)

pub returns-in_err-first_bad : goal.returns-in_err-first_bad
returns-in_err-first_bad c = rw (left_with _ _ c.from_residual.ensures.1) (search (rules, buffer_bad, c.in_err-first_bad.was))

pub returns : goal.returns
returns c = search (rules, buffer_done, c.in_ok-first_bad.was)
