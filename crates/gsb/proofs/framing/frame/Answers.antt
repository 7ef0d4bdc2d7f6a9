-- Each return is a law of `framed`, or what `frame_any` gives.
use mathlib.Core.Path.{refl}
use native.Mathlib.Omega.{arith}
use borrow.Author.Rules.{rules}
use Rattle.gsb.proofs.LookupLaws.{framed_known}
use Rattle.gsb.proofs.framing.frame.Goals as goal

pub returns-then-within : goal.returns-then-within
returns-then-within c = search (rules, framed_known 8 0x80000 0x8FFFF 12 refl refl refl (omega arith))

pub returns-then-within-2 : goal.returns-then-within-2
returns-then-within-2 c = search (rules, framed_known 16 0x100000 0x10FFFF 20 refl refl refl (omega arith))
