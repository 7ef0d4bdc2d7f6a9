-- The bits are those that are supported (`element_bits`).
use Rattle.state.proofs.Buffers.{element_bits}
use borrow.Author.Rules.{rules}
use Rattle.state.proofs.element_target.Goals as goal

pub returns : goal.returns
returns c = record { value = search (rules, element_bits); held = search rules }
