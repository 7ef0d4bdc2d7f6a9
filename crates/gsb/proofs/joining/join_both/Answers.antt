-- Each return is a test of the definition, in its order: the laws of JoinLaws.
use borrow.Author.Rules.{rules}
use Rattle.std.proofs.lemmas.Result.{err_from_is_err_and}
use Rattle.gsb.proofs.Walks.{long_enough}
use Rattle.gsb.proofs.JoinLaws.{measured, first_length, second_length, first_cut, second_cut, both_ends}
use Rattle.gsb.proofs.joining.join_both.Goals as goal

pub returns-then-bad_length : goal.returns-then-bad_length
returns-then-bad_length c = search (rules, first_length)

pub returns-then-bad_length-2 : goal.returns-then-bad_length-2
returns-then-bad_length-2 c = search (rules, second_length)

pub end_of-requires : goal.end_of-requires
end_of-requires c = long_enough c.args.first.now _ c.bad_length.ensures c.if-bad_length.false

pub returns-in_err-m : goal.returns-in_err-m
returns-in_err-m c =
    let p = err_from_is_err_and c.from_residual.result c.from_residual.ensures.1 in
    rw (p.1, p.2) (first_cut _ _ _ _ c.bad_length.ensures c.if-bad_length.false _ c.bad_length-2.ensures c.if-bad_length-2.false _ c.in_err-m.ensures.0)

pub end_of-requires-2 : goal.end_of-requires-2
end_of-requires-2 c = long_enough c.args.second.now _ c.bad_length-2.ensures c.if-bad_length-2.false

pub returns-in_err-n : goal.returns-in_err-n
returns-in_err-n c =
    let p = err_from_is_err_and c.from_residual-in_err-n.result c.from_residual-in_err-n.ensures.1 in
    rw (p.1, p.2)
    (second_cut _ _ _ _ c.bad_length.ensures c.if-bad_length.false _ c.bad_length-2.ensures c.if-bad_length-2.false _ c.in_ok-m.ensures.0 _ c.in_err-n.ensures.0)

pub join_at-requires : goal.join_at-requires
join_at-requires c = (
  measured _ _ _ c.bad_length.ensures c.if-bad_length.false c.in_ok-m.ensures,
  measured _ _ _ c.bad_length-2.ensures c.if-bad_length-2.false c.in_ok-n.ensures,
)

pub returns : goal.returns
returns c =
    both_ends _ _ _ _ c.bad_length.ensures c.if-bad_length.false _ c.bad_length-2.ensures c.if-bad_length-2.false _ c.in_ok-m.ensures.0 _ _ c.in_ok-n.ensures.0
    c.join_at.ensures
