-- By the definition.
use Rattle.l1.specs.Marks.{is_marked}
use mathlib.Core.Path.{refl}
use Rattle.l1.proofs.marks.is_marked.Goals as goal

pub returns : goal.returns
unfolding is_marked
returns c = refl
