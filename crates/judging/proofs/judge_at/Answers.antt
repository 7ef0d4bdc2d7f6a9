-- 5, then 13, then the elements that a known exit returns (`good_ids`, `at_elements` of Tops).
use Rattle.judging.proofs.Tops.{good_ids, at_length, at_exit, at_elements}
use borrow.Author.Rules.{rules}
use Rattle.judging.proofs.judge_at.Goals as goal

pub returns-then-bad_length : goal.returns-then-bad_length
returns-then-bad_length c = search (rules, at_length)

pub returns-in_default : goal.returns-in_default
returns-in_default c = at_exit _ _ _ _ _ c.bad_length.ensures c.if-bad_length.false c.in_default.ensures

pub judge_elements-requires-clause-good_ids : goal.judge_elements-requires-clause-good_ids
judge_elements-requires-clause-good_ids c = let p = c.in-Some.ensures in good_ids _ _ p.1

pub returns : goal.returns
returns c = let p = c.in-Some.ensures in at_elements _ _ _ _ _ c.bad_length.ensures c.if-bad_length.false _ _ p.0 p.1 c.judge_elements.ensures
