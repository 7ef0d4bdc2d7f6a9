use native.Mathlib.Omega.{arith}
use borrow.Author.Rules.{rules}
use Rattle.std.proofs.lemmas.Result.{err_from_is_err_and}
use mathlib.Core.Path.{◌∙◌}
use Rattle.gsb.proofs.Walks.{long_enough, walk_next, walk_start, offset_start, offset_next}
use Rattle.gsb.proofs.LookupLaws.{placed_inside, last_more, last_inside, last_none, looked_length, looked_cut, looked_part}
use Rattle.gsb.proofs.lookups.lookup.Goals as goal

pub returns-then-bad_length-clause-value : goal.returns-then-bad_length-clause-value
returns-then-bad_length-clause-value c = search (rules, looked_length)

pub loop-i-init : goal.loop-i-init
loop-i-init c = (search (rules, long_enough), offset_start _, last_none _ _, tt, walk_start _ _)

pub returns-in_err-next-clause-value : goal.returns-in_err-next-clause-value
returns-in_err-next-clause-value c =
    let p = err_from_is_err_and c.from_residual.result c.from_residual.ensures.1 in
    rw (p.1, p.2)
    (looked_cut _ _ _ c.bad_length.ensures c.if-bad_length.false _ c.get32-count.ensures _ _ c.loop-i.invariant.4 _ _ c.loop-i-test.true c.frame.ensures c.in_err-next.ensures)

pub later-last-requires : goal.later-last-requires
later-last-requires c = let p = placed_inside _ _ _ _ _ c.frame.ensures c.in_ok-next.ensures in omega (arith, p.1)

pub loop-i-preserved : goal.loop-i-preserved
loop-i-preserved c =
    let p = placed_inside _ _ _ _ _ c.frame.ensures c.in_ok-next.ensures in
    let l = c.loop-i in (
      omega (arith, p.0, p.1),
      p.0 ∙ offset_next _ _ _ l.invariant.1,
      last_more _ _ _ _ _ _ l.invariant.2 l.invariant.1 c.later-last.ensures,
      last_inside _ _ _ _ _ l.invariant.3 p.1 c.later-last.ensures,
      walk_next _ _ _ _ _ _ _ l.invariant.4 c.loop-i-test.true c.frame.ensures c.in_ok-next.ensures,
    )

pub returns-clause-value : goal.returns-clause-value
returns-clause-value c = search (rules, looked_part)
