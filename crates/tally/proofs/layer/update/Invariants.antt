-- What the records are to be is what those from i on are still to be. The laws are `at_turn`, `at_none` and `at_past` of Noting.
use Rattle.std.proofs.Common.{◌≡◌}
use Rattle.tally.specs.Private.{noted_at}
use Rattle.tally.proofs.layer.update.Given as goal

abbrev pub invariant-loop-i : goal.invariant-loop-i
invariant-loop-i l = noted_at l.i l.left l.served.change l.records ≡ noted_at l.served.first l.served.slots l.served.change l.initial.records
