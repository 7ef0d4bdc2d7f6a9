-- The call of the record that was read, told by the name of its kind: `played_turn`.
use Rattle.records.proofs.Turns.{data_lent, data_count, effect_lent, played_turn}
use borrow.Author.Rules.{rules}
use Rattle.records.proofs.playing.play.Goals as goal

pub slice_bounds-call-end-2 : goal.slice_bounds-call-end-2
slice_bounds-call-end-2 c = data_count _ _ _ _ _ c.copy.ensures (search rules)

pub returns : goal.returns
returns c =
    played_turn _ _ _ _ _ _ (search rules) _ _ _ _ _ _ _ _ (search rules)
    (data_lent _ _ _ _ _ c.copy.ensures (search rules) (search rules))
    (effect_lent _ _ _)
    c.call-answer.ensures
    (search rules)
    c.registers_of.ensures
