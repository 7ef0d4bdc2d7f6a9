-- The three parts of a byte make it: `bit_is`.
use native.Mathlib.Omega.{arith}
use Rattle.store.proofs.Writes.{bit_low, bit_is, bit_fits}
use Rattle.store.proofs.fields.with_bit.Goals as goal

pub overflow_sub-low : goal.overflow_sub-low
overflow_sub-low c = bit_low _ _ _ c.requires.0 c.requires.1 c.requires.2

pub overflow_add-result : goal.overflow_add-result
overflow_add-result c = omega (arith, bit_is _ _ _ c.requires.0 c.requires.1 c.requires.2, bit_fits _ _ _ c.requires.0 c.requires.1 c.requires.2)

pub overflow_add-result-2 : goal.overflow_add-result-2
overflow_add-result-2 c = omega (arith, bit_is _ _ _ c.requires.0 c.requires.1 c.requires.2, bit_fits _ _ _ c.requires.0 c.requires.1 c.requires.2)

pub overflow_cast-result : goal.overflow_cast-result
overflow_cast-result c = omega (arith, bit_is _ _ _ c.requires.0 c.requires.1 c.requires.2, bit_fits _ _ _ c.requires.0 c.requires.1 c.requires.2)

pub returns : goal.returns
returns c = bit_is _ _ _ c.requires.0 c.requires.1 c.requires.2
