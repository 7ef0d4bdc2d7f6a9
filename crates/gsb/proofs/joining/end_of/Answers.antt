use mathlib.Core.Path.{◌∙◌}
use native.Mathlib.Omega.{arith}
use borrow.Author.Rules.{rules}
use Rattle.std.proofs.lemmas.Result.{err_from_is_err_and}
use Rattle.gsb.proofs.Walks.{walk_next, walk_start, offset_start, offset_next}
use Rattle.gsb.proofs.LookupLaws.{placed_inside}
use Rattle.gsb.proofs.JoinLaws.{extent_cut, extent_end}
use Rattle.gsb.proofs.joining.end_of.Goals as goal

pub loop-i-init : goal.loop-i-init
loop-i-init c = (search rules, search rules, offset_start _, walk_start _ _)

pub returns-in_err-at : goal.returns-in_err-at
returns-in_err-at c =
    let p = err_from_is_err_and c.from_residual.result c.from_residual.ensures.1 in
    rw (p.1, p.2) (extent_cut _ _ _ _ c.get32-count.ensures c.loop-i.invariant.3 _ _ c.loop-i-test.true c.frame_by_size.ensures c.in_err-at.ensures, tt)

pub loop-i-preserved : goal.loop-i-preserved
loop-i-preserved c =
    let p = placed_inside _ _ _ _ _ c.frame_by_size.ensures c.in_ok-at.ensures in
    let l = c.loop-i in (
      omega (arith, l.invariant.0, p.0),
      omega (arith, p.0, p.1),
      p.0 ∙ offset_next _ _ _ l.invariant.2,
      walk_next _ _ _ _ _ _ _ l.invariant.3 c.loop-i-test.true c.frame_by_size.ensures c.in_ok-at.ensures,
    )

pub returns : goal.returns
returns c = (search (rules, extent_end), (omega (arith, c.loop-i.invariant.0), c.loop-i.invariant.1))
