-- By where the size is read: the laws `held-..` of Touching.
use Rattle.tally.proofs.Touching.{held_cut, held_size}
use borrow.Author.Rules.{rules}
use Rattle.tally.proofs.slots.held_bytes.Goals as goal

pub returns-then-len-size : goal.returns-then-len-size
returns-then-len-size c = (search rules, search (rules, held_cut))

pub returns : goal.returns
returns c = (search rules, search (rules, held_size))
