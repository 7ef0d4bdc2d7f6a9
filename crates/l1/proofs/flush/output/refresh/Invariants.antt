-- The elements before i are kept.
use Rattle.l1.proofs.Refreshing.{kept_upto}
use Rattle.gsb.specs.Walk.{offset_at}
use Rattle.l1.specs.Marks.{Cache}
use mathlib.Core.Path.{◌≡◌}
use Rattle.l1.proofs.flush.output.refresh.Given as goal

abbrev pub invariant-loop-i : goal.invariant-loop-i
invariant-loop-i l = (l.at ≡ offset_at l.output l._i) × (◌≡◌ {A = Cache} (record { values = l.values; marks = l.marks }) (kept_upto l.output l.initial.values l._i))
