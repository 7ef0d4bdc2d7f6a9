-- By the judgement of the buffer (`set_bad`, `set_done`).
use Rattle.admission.proofs.Leaving.{left_with}
use Rattle.state.proofs.Buffers.{ready, set_bad, set_done}
use borrow.Author.Rules.{rules}
use Rattle.state.proofs.set_at.Goals as goal

pub returns-in_err-judge_buffer : goal.returns-in_err-judge_buffer
returns-in_err-judge_buffer c = rw (left_with _ _ c.from_residual.ensures.1) (search (rules, set_bad, c.in_err-judge_buffer.was))

pub apply-requires : goal.apply-requires
apply-requires c = search (rules, ready, c.in_ok-judge_buffer.was)

pub returns : goal.returns
returns c = search (rules, set_done, c.in_ok-judge_buffer.was)
