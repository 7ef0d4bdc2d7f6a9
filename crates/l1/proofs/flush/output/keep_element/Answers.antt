-- The same, of a register of 8 bytes (`double_kept`).
use Rattle.l1.proofs.Refreshing.{header_id, header_fits, double_from, double_to, double_number, double_fits, double_next, double_kept}
use borrow.Author.Rules.{rules}
use mathlib.Core.Path.{sym, ◌∙◌}
use native.Mathlib.Omega.{arith}
use Rattle.l1.proofs.flush.output.keep_element.Goals as goal

pub get16-requires : goal.get16-requires
get16-requires c = search (rules, header_id)

pub overflow_add-at : goal.overflow_add-at
overflow_add-at c = search (rules, header_fits)

pub copy-requires : goal.copy-requires
copy-requires c = (search (rules, double_from), double_to _ _ c.requires _ c.get16.ensures _ (sym c.in-Some.is ∙ c.register_cell.ensures) c.if-x-eq8.true _ (omega arith))

pub set_mark-requires : goal.set_mark-requires
set_mark-requires c = (double_number _ _ c.requires _ c.get16.ensures _ (sym c.in-Some.is ∙ c.register_cell.ensures) c.if-x-eq8.true)

pub overflow_add-result : goal.overflow_add-result
overflow_add-result c = search (rules, double_fits)

pub returns : goal.returns
returns c =
    let e = sym c.in-Some.is ∙ c.register_cell.ensures in
    record {
      value = double_next _ _ c.requires _ c.get16.ensures _ e c.if-x-eq8.true;
      fact = double_kept _ _ c.requires _ c.get16.ensures _ e c.if-x-eq8.true _ _ _ _ c.copy.ensures c.set_mark.ensures;
    }
