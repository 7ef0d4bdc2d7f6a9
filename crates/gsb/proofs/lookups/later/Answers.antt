-- By the test.
use mathlib.Core.Path.{sym, ◌∙◌}
use borrow.Author.Tests.{eq-eqb, ne_eqb}
use Rattle.gsb.proofs.lookups.later.Goals as goal

pub returns-then-get16-id : goal.returns-then-get16-id
returns-then-get16-id c = simp (eq-eqb _ _ (sym c.get16.ensures ∙ c.if-get16-id.true))

pub returns : goal.returns
returns c = simp (ne_eqb _ _ (λ e. c.if-get16-id.false (c.get16.ensures ∙ e)))
