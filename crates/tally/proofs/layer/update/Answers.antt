use Rattle.std.proofs.Common.{◌≡◌, ℕ, ◌<◌, ◌≤◌, suc, length, ◌/◌, slice_set, get_or, sym, ap, ◌∙◌, add-one, arith}
use Rattle.std.proofs.lemmas.List.{get_or_default}
use Rattle.tally.specs.declared.Summary.{Summary}
use Rattle.tally.specs.Tally.{new_record}
use Rattle.tally.specs.Private.{noted_at, after}
use Rattle.tally.proofs.Noting.{at_turn, at_past, at_none}
use Rattle.tally.proofs.layer.update.Goals as goal

pub returns-then-left-eq0 : goal.returns-then-left-eq0
returns-then-left-eq0 c =
    let ch = c.args.served.change in
    let ts = c.loop-i.records in
    let i = c.loop-i.i in
    sym (ap (λ (left : ℕ). noted_at i left ch ts) c.if-left-eq0.true ∙ at_none ch i ts) ∙ c.loop-i.invariant

pub loop-i-preserved : goal.loop-i-preserved
loop-i-preserved c =
    let ch = c.args.served.change in
    let ts = c.loop-i.records in
    let i = c.loop-i.i in
    let left = c.loop-i.left in
    let inside : i < length ts = omega arith in
    let e : c.after.result ≡ after left ch (get_or ts i new_record) = c.after.ensures ∙ ap (after left ch) (get_or_default ts i _ new_record inside) in
    rw add-one (ap (λ (t : Summary). noted_at (suc i) (left / 2) ch (slice_set ts i t)) e ∙ sym (at_turn ch i left ts inside) ∙ c.loop-i.invariant)

pub returns : goal.returns
returns c =
    let past : length c.loop-i.records ≤ c.loop-i.i = omega arith in
    sym (at_past c.args.served.change c.loop-i.i c.loop-i.left c.loop-i.records past) ∙ c.loop-i.invariant
