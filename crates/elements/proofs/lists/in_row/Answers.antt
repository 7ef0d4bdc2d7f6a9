-- The code's tests are the contract's. Assumes nothing.
use borrow.Author.Tests.{lt-leb, le-leb}
use mathlib.Core.Path.{sym}
use Rattle.elements.proofs.lists.in_row.Goals as goal

pub returns-then-id-row : goal.returns-then-id-row
returns-then-id-row c = sym (simp (lt-leb _ _ c.if-id-row.true))

pub returns : goal.returns
returns c = sym (simp (le-leb _ _ c.if-id-row.false))
