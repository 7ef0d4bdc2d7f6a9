-- Each return is a law of `framed`, or what `frame_any` gives.
use mathlib.Core.Path.{refl}
use native.Mathlib.Omega.{arith}
use borrow.Author.Rules.{rules}
use Rattle.gsb.proofs.LookupLaws.{framed_told}
use Rattle.gsb.proofs.framing.frame_by_size.Goals as goal

pub returns-then-size-eq8 : goal.returns-then-size-eq8
returns-then-size-eq8 c = search (rules, framed_told 8 12 refl (omega arith))

pub returns-then-size-eq4 : goal.returns-then-size-eq4
returns-then-size-eq4 c = search (rules, framed_told 4 8 refl (omega arith))

pub returns-then-size-eq0 : goal.returns-then-size-eq0
returns-then-size-eq0 c = search (rules, framed_told 0 4 refl (omega arith))

pub returns-then-size-eq16 : goal.returns-then-size-eq16
returns-then-size-eq16 c = search (rules, framed_told 16 20 refl (omega arith))
