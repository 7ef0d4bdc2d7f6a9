use mathlib.Core.Path.{refl}
use native.Mathlib.Omega.{arith}
use borrow.Author.Rules.{rules}
use Rattle.octets.proofs.Bytes.{copy_none, copy_part}
use Rattle.octets.proofs.copying.copy_words.Goals as goal

pub loop-i-init : goal.loop-i-init
loop-i-init c = (search rules, refl, copy_none _ _ _ _)

pub loop-i-preserved : goal.loop-i-preserved
loop-i-preserved c = (
  search rules,
  omega arith,
  copy_part _ _ _ _ _ _ _ _ c.loop-i.invariant.2 (omega arith) c.copy_array.ensures,
)
