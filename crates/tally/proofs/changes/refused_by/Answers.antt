-- By R3: the laws `refused-..` of ByAnswer.
use borrow.Author.Rules.{rules}
use Rattle.tally.proofs.ByAnswer.{refused_low, refused_high, refused_in}
use Rattle.tally.proofs.changes.refused_by.Goals as goal

pub returns-then-r3-lt6 : goal.returns-then-r3-lt6
returns-then-r3-lt6 c = search (rules, refused_low)

pub returns-then-r3-gt8 : goal.returns-then-r3-gt8
returns-then-r3-gt8 c = search (rules, refused_high)

pub returns : goal.returns
returns c = search (rules, refused_in)
