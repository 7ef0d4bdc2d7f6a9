-- The three parts of a number make it: `digits_are`.
use native.Mathlib.Omega.{arith}
use Rattle.octets.proofs.Fields.{digits_low, digits_are, digits_fit}
use Rattle.octets.proofs.writing.with_digits.Goals as goal

pub overflow_sub-low : goal.overflow_sub-low
overflow_sub-low c = digits_low _ _ _ _ c.requires.0 c.requires.1 c.requires.2

pub overflow_add-result : goal.overflow_add-result
overflow_add-result c = omega (arith, digits_are _ _ _ _ c.requires.0 c.requires.1 c.requires.2, digits_fit _ _ _ _ c.requires.0 c.requires.1 c.requires.2)

pub overflow_add-result-2 : goal.overflow_add-result-2
overflow_add-result-2 c = omega (arith, digits_are _ _ _ _ c.requires.0 c.requires.1 c.requires.2, digits_fit _ _ _ _ c.requires.0 c.requires.1 c.requires.2)

pub overflow_cast-result : goal.overflow_cast-result
overflow_cast-result c = omega (arith, digits_are _ _ _ _ c.requires.0 c.requires.1 c.requires.2, digits_fit _ _ _ _ c.requires.0 c.requires.1 c.requires.2)

pub returns : goal.returns
returns c = digits_are _ _ _ _ c.requires.0 c.requires.1 c.requires.2
