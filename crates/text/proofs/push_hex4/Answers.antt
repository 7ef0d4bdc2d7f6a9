-- Four bytes written one behind the other: `wrote_hex`.
use Rattle.text.proofs.Writes.{wrote_hex}
use native.Mathlib.Omega.{arith}
use lib.ListN.{length-set}
use borrow.Author.Rules.{rules}
use Rattle.text.proofs.push_hex4.Goals as goal

pub bounds-text-at-2 : goal.bounds-text-at-2
bounds-text-at-2 c = simp length-set (omega arith)

pub bounds-text-at-3 : goal.bounds-text-at-3
bounds-text-at-3 c = simp length-set (omega arith)

pub bounds-text-at-4 : goal.bounds-text-at-4
bounds-text-at-4 c = simp length-set (omega arith)

pub returns : goal.returns
returns c = search (rules, wrote_hex)
