-- Rests on `all_wrote`: the values and the words of bits that tell them.
use borrow.Author.Rules.{rules}
use Rattle.handover.proofs.Taken.{bytes_second, bytes_third, third_fits, all_wrote}
use Rattle.handover.proofs.taking.take_values.Goals as goal

pub take_second-second-requires : goal.take_second-second-requires
take_second-second-requires c = (search rules, search (rules, bytes_second))

pub take_third-third-requires : goal.take_third-third-requires
take_third-third-requires c = (search rules, bytes_third _ _ _ _ _ _ c.requires.0 _ c.take_second-second.ensures (bytes_second _ _ _ _ _ _ c.requires.0 c.take_first-first.ensures c.requires.2))

pub overflow_mul-result : goal.overflow_mul-result
overflow_mul-result c = search (rules, third_fits)

pub returns : goal.returns
returns c = search (rules, all_wrote)
