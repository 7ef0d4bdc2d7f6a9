-- One bit in place (`one_shifted`).
use Rattle.l1.specs.Marks.{with_mark}
use Rattle.l1.proofs.Marking.{one_shifted}
use Prim.Native.Nat.{◌-◌, ◌%◌}
use native.Mathlib.Omega.{arith}
use Rattle.l1.proofs.marks.set_mark.Goals as goal

pub returns : goal.returns
unfolding with_mark
returns c = simp (one_shifted (63 - c.args.i % 64) (omega arith))
