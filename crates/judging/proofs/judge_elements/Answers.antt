use Rattle.judging.proofs.Steps.{walk_begins, marks_begin, reached, walk_ends, walk_stops, turn_here, turn_inside, turn_marked, turn_walked}
use Rattle.gsb.proofs.Walks.{offset_start}
use Rattle.admission.proofs.Leaving.{left_with}
use Rattle.judging.specs.Private.{missing_in}
use Rattle.answer.specs.declared.Fault.TheVariants.{Missing}
use native.Mathlib.Omega.{arith}
use mathlib.Core.Path.{sym, ap, ◌∙◌}
use borrow.Author.Rules.{rules}
use Rattle.judging.proofs.judge_elements.Goals as goal

pub loop-i-init : goal.loop-i-init
loop-i-init c = (search (rules, offset_start), search rules, search (rules, marks_begin), search (rules, walk_begins))

pub compare-requires : goal.compare-requires
compare-requires c = record { slot_bytes_in_bounds = search rules; good_ids = search rules; reached = search (rules, reached) }

pub returns-in_err-next : goal.returns-in_err-next
returns-in_err-next c = rw (left_with _ _ c.from_residual.ensures.1) (search (rules, walk_stops, c.in_err-next.was))

pub loop-i-preserved : goal.loop-i-preserved
loop-i-preserved c =
    (search (rules, turn_here, c.in_ok-next.was), search (rules, turn_inside, c.in_ok-next.was), search (rules, turn_marked, c.in_ok-next.was), search (rules, turn_walked, c.in_ok-next.was))

pub returns-in-Some : goal.returns-in-Some
returns-in-Some c = walk_ends _ _ _ _ _ _ _ _ c.get32-count.ensures c.loop-i.invariant.0 c.loop-i.invariant.1 c.loop-i.invariant.2 c.loop-i.invariant.3 _ _ (omega arith) (omega arith) c.first_unmarked.ensures (ap Missing c.from.ensures ∙ sym (ap missing_in c.in-Some.is))

pub returns-in-None : goal.returns-in-None
returns-in-None c = walk_ends _ _ _ _ _ _ _ _ c.get32-count.ensures c.loop-i.invariant.0 c.loop-i.invariant.1 c.loop-i.invariant.2 c.loop-i.invariant.3 _ _ (omega arith) (omega arith) c.first_unmarked.ensures (sym (ap missing_in c.in-None.is))
