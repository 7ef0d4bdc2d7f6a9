-- The whole words, and what they leave, side by side.
use native.Mathlib.Omega.{arith}
use Rattle.octets.proofs.Bytes.{copy_two}
use Rattle.octets.proofs.copying.copy_any.Goals as goal

pub returns : goal.returns
returns c = copy_two _ _ _ _ _ _ _ _ _ c.requires.0 (omega arith) c.copy_words-i.ensures.1 c.copy_bytes.ensures
