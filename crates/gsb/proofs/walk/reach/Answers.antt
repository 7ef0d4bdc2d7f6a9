-- By the use.
use borrow.Author.Rules.{rules}
use Rattle.gsb.proofs.Registers.{reach_end}
use Rattle.gsb.proofs.walk.reach.Goals as goal

pub returns-then-of_thread : goal.returns-then-of_thread
returns-then-of_thread c = search (rules, reach_end)
