-- By the judgement of the buffer (`get_bad`, `get_done`).
use Rattle.admission.proofs.Leaving.{left_with}
use Rattle.state.proofs.Buffers.{ready, get_bad, get_done}
use borrow.Author.Rules.{rules}
use Rattle.state.proofs.get_at.Goals as goal

pub returns-in_err-judge_buffer : goal.returns-in_err-judge_buffer
returns-in_err-judge_buffer c = rw (left_with _ _ c.from_residual.ensures.1) (search (rules, get_bad, c.in_err-judge_buffer.was))

pub fill-requires : goal.fill-requires
fill-requires c = search (rules, ready, c.in_ok-judge_buffer.was)

pub returns : goal.returns
returns c = search (rules, get_done, c.in_ok-judge_buffer.was)
