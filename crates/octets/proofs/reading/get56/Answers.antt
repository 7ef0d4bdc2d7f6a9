-- Rests on `get_seven`: 4, 2 and 1 bytes.
use Rattle.octets.proofs.Numbers.{get_seven}
use native.Mathlib.Omega.{arith}
use borrow.Author.Rules.{rules}
use Rattle.octets.proofs.reading.get56.Goals as goal

pub returns : goal.returns
returns c = (search (rules, get_seven), omega arith)
