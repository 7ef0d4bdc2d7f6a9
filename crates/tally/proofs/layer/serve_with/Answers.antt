-- What is known before the call, its answer and its data make the outcome: `serves_with` of Serving.
use Rattle.tally.proofs.Serving.{serves_with}
use Rattle.tally.proofs.layer.serve_with.Goals as goal

pub returns : goal.returns
returns c = λ ts e.
    serves_with _ _ _ _ _ _ _ _ _ _ _ c.touched-slots.ensures _ c.held_bytes-held.ensures.1 c.requires _ _ _ _ c.call-answer.ensures _
    c.first_bytes.ensures _ c.r3_of.ensures _ c.change_for-change.ensures ts e
