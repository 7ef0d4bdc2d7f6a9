-- Each return is a law of `judged`, by how far the tests came.
use Rattle.gsb.proofs.Judged.{judged_header, judged_empty, judged_id, judged_size, judged_end, judged_fits, judged_value, judged_good}
use borrow.Author.Rules.{rules}
use mathlib.Core.Bool.{not}
use mathlib.Core.Path.{ap}
use Rattle.gsb.proofs.judging.judge.Goals as goal

pub returns-then-b-at-lt4 : goal.returns-then-b-at-lt4
returns-then-b-at-lt4 c = search (rules, judged_header)

pub returns-then-get32-eq0 : goal.returns-then-get32-eq0
returns-then-get32-eq0 c = search (rules, judged_empty)

pub returns-then-not-permitted : goal.returns-then-not-permitted
returns-then-not-permitted c = search (rules, judged_id)

pub returns-then-not-right_size : goal.returns-then-not-right_size
returns-then-not-right_size c = search (rules, judged_size)

pub returns-then-b-at : goal.returns-then-b-at
returns-then-b-at c = search (rules, judged_end)

pub good_value-requires : goal.good_value-requires
good_value-requires c = (judged_fits _ _ _ _ c.kind_of-kind.ensures c.right_size.ensures (ap not c.if-not-right_size.false), search rules)

pub returns-then-not-good_value : goal.returns-then-not-good_value
returns-then-not-good_value c = search (rules, judged_value)

pub returns : goal.returns
returns c = judged_good _ _ _ _ _ _ c.if-b-at-lt4.false c.get16-id.ensures c.get16-size.ensures c.kind_of-kind.ensures _ c.permitted.ensures (ap not c.if-not-permitted.false) _ c.right_size.ensures (ap not c.if-not-right_size.false) c.if-b-at.false _ c.good_value.ensures (ap not c.if-not-good_value.false)
