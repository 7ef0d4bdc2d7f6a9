-- Each return is a line of `compared`: the laws `at-..` of Steps. The last ones are written out, since a search would take too long.
use Rattle.judging.proofs.Steps.{at_header, at_nop_cut, at_nop, at_not_new, place_small, mark_small, cell_inside, at_size, at_end, at_value, at_good}
use native.Mathlib.Omega.{arith}
use borrow.Author.Rules.{rules}
use mathlib.Core.Bool.{not}
use mathlib.Core.Path.{ap}
use Rattle.judging.proofs.compare.Goals as goal

pub returns-then-b-at-lt4 : goal.returns-then-b-at-lt4
returns-then-b-at-lt4 c = search (rules, at_header)

pub returns-then-b-at : goal.returns-then-b-at
returns-then-b-at c = search (rules, at_nop_cut)

pub returns-then-id-eq0 : goal.returns-then-id-eq0
returns-then-id-eq0 c = search (rules, at_nop)

pub returns-in_default : goal.returns-in_default
returns-in_default c = search (rules, at_not_new)

pub returns-then-cell-size : goal.returns-then-cell-size
returns-then-cell-size c = search (rules, at_size)

pub returns-then-b-at-2 : goal.returns-then-b-at-2
returns-then-b-at-2 c = search (rules, at_end)

pub overflow_add-base : goal.overflow_add-base
overflow_add-base c = omega (arith, cell_inside c.args.base c.args.store.now _ _ _ _ _ c.requires.good_ids c.requires.reached _ _ c.if-b-at-lt4.false c.get16-id.ensures c.get16-size.ensures c.if-id-eq0.false _ c.new_place.ensures _ c.in-Some.is _ c.cell_of-cell.ensures c.requires.slot_bytes_in_bounds)

pub same_value-requires : goal.same_value-requires
same_value-requires c = (search rules, omega (arith, cell_inside c.args.base c.args.store.now _ _ _ _ _ c.requires.good_ids c.requires.reached _ _ c.if-b-at-lt4.false c.get16-id.ensures c.get16-size.ensures c.if-id-eq0.false _ c.new_place.ensures _ c.in-Some.is _ c.cell_of-cell.ensures c.requires.slot_bytes_in_bounds))

pub returns-then-not-same_value : goal.returns-then-not-same_value
returns-then-not-same_value c = search (rules, at_value)

pub overflow_shl-result : goal.overflow_shl-result
overflow_shl-result c = search (rules, place_small)

pub overflow_add-result-4 : goal.overflow_add-result-4
overflow_add-result-4 c = omega (arith, mark_small _ _ _ _ _ _ _ c.requires.good_ids c.requires.reached c.new_place.ensures _ c.in-Some.is)

pub returns : goal.returns
returns c = at_good _ _ _ _ _ _ _ c.requires.good_ids c.requires.reached _ _ c.if-b-at-lt4.false c.get16-id.ensures c.get16-size.ensures c.if-id-eq0.false _ c.new_place.ensures _ c.in-Some.is _ c.cell_of-cell.ensures c.requires.slot_bytes_in_bounds c.if-cell-size.false c.if-b-at-2.false _ c.same_value.ensures (ap not c.if-not-same_value.false)
