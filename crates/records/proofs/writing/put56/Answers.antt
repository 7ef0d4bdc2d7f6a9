-- Rests on `seven_put`: seven bytes as 4, 2 and 1.
use native.Mathlib.Omega.{arith}
use lib.ListN.{length-set}
use Rattle.records.proofs.Packed.{seven_put}
use borrow.Author.Rules.{rules}
use Rattle.records.proofs.writing.put56.Goals as goal

pub shape_of-s : goal.shape_of-s
shape_of-s c = simp length-set (omega arith)

pub returns : goal.returns
returns c = search (rules, seven_put)
