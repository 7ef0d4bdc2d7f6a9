-- By the first tests: the laws `get-..` of Answers.
use Rattle.l0.proofs.Answers.{get_refused, get_told}
use Rattle.std.proofs.Common.{rules}
use Rattle.l0.proofs.capabilities.get_capabilities.Goals as goal

pub returns-in-Err : goal.returns-in-Err
returns-in-Err c = rw (← c.layout_of-l.ensures) (search (rules, get_refused))

pub returns-in-Ok : goal.returns-in-Ok
returns-in-Ok c = rw (← c.layout_of-l.ensures) (search (rules, get_told))
