-- Each arm is a line of the definition: the laws `..-is` of ByAnswer.
use Rattle.tally.proofs.ByAnswer.{renewed_is, set_is, ran_is, refused_is}
use borrow.Author.Rules.{rules}
use Rattle.tally.proofs.counters.changed.Goals as goal

pub returns-in-Renewed : goal.returns-in-Renewed
returns-in-Renewed c = search (rules, renewed_is)

pub returns-in-Set : goal.returns-in-Set
returns-in-Set c = search (rules, set_is)

pub returns-in-Ran : goal.returns-in-Ran
returns-in-Ran c = search (rules, ran_is)

pub returns-in-Refused : goal.returns-in-Refused
returns-in-Refused c = search (rules, refused_is)
