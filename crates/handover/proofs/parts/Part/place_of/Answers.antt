-- Rests on `place_is`: of elements of one size, the places are a row.
use borrow.Author.Rules.{rules}
use Rattle.handover.proofs.Places.{steps_fit, place_fits, place_is}
use Rattle.handover.proofs.parts.Part.place_of.Goals as goal

pub overflow_mul-result : goal.overflow_mul-result
overflow_mul-result c = search (rules, steps_fit)

pub overflow_add-result : goal.overflow_add-result
overflow_add-result c = search (rules, place_fits)

pub returns : goal.returns
returns c = search (rules, place_is)
