-- By the source: the laws `fill-..` of Moving.
use native.Mathlib.Omega.{arith}
use Rattle.transfer.proofs.Moving.{fits_stored, fits_fixed, fill_fixed, fill_stored}
use borrow.Author.Rules.{rules}
use Rattle.transfer.proofs.filling.fill_from.Goals as goal

pub put64-requires : goal.put64-requires
put64-requires c = omega (arith, fits_fixed _ _ _ _ _ c.requires.0 c.in-Fixed.is, c.requires.1)

pub overflow_add-base : goal.overflow_add-base
overflow_add-base c = omega (arith, fits_stored _ _ _ _ _ c.requires.0 c.in-Stored.is)

pub copy-requires : goal.copy-requires
copy-requires c = (fits_stored _ _ _ _ _ c.requires.0 c.in-Stored.is, search rules)

pub returns-in-Fixed : goal.returns-in-Fixed
returns-in-Fixed c = search (rules, fill_fixed)

pub returns-in-Stored : goal.returns-in-Stored
returns-in-Stored c = search (rules, fill_stored)
