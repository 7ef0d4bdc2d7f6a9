use mathlib.Core.Path.{refl}
use native.Mathlib.Omega.{arith}
use lib.ListN.{length-set}
use borrow.Author.Rules.{rules}
use Rattle.octets.proofs.Bytes.{copy_none, copy_more}
use Rattle.octets.proofs.copying.copy_bytes.Goals as goal

pub loop-i-init : goal.loop-i-init
loop-i-init c = (refl, copy_none _ _ _ _)

pub loop-i-preserved : goal.loop-i-preserved
loop-i-preserved c = (simp length-set (omega arith), search (rules, copy_more))
