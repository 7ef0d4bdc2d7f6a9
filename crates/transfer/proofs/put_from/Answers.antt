-- By the source: the laws `put-..` of Moving.
use native.Mathlib.Omega.{arith}
use Rattle.transfer.proofs.Moving.{fits_stored, put_other, put_stored}
use borrow.Author.Rules.{rules}
use Rattle.transfer.proofs.put_from.Goals as goal

pub overflow_add-base : goal.overflow_add-base
overflow_add-base c = omega (arith, fits_stored _ _ _ _ _ c.requires.0 c.in-Stored.is)

pub copy-requires : goal.copy-requires
copy-requires c = (search rules, fits_stored _ _ _ _ _ c.requires.0 c.in-Stored.is)

pub returns-in-Stored : goal.returns-in-Stored
returns-in-Stored c = search (rules, put_stored)

pub returns-in_default : goal.returns-in_default
returns-in_default c = put_other _ _ _ _ c.in_default.not-Stored
