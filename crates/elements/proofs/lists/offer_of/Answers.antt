-- The code's test is the definition's. Assumes nothing.
use borrow.Author.Tests.{eq-eqb, ne_eqb}
use mathlib.Core.Path.{sym}
use Rattle.elements.specs.Later.{offer_of}
use Rattle.elements.proofs.lists.offer_of.Goals as goal

pub returns-then-pvr-eq-POWER9 : goal.returns-then-pvr-eq-POWER9
unfolding offer_of
returns-then-pvr-eq-POWER9 c = sym (simp (eq-eqb _ _ c.if-pvr-eq-POWER9.true))

pub returns : goal.returns
unfolding offer_of
returns c = sym (simp (ne_eqb _ _ c.if-pvr-eq-POWER9.false))
