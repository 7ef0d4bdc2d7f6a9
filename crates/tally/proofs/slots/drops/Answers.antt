-- With bit 0, by the slot word: the law `drops_used` of Touching.
use Rattle.tally.proofs.Touching.{drops_used}
use borrow.Author.Rules.{rules}
use Rattle.tally.proofs.slots.drops.Goals as goal

pub returns-then-is_wide : goal.returns-then-is_wide
returns-then-is_wide c = search (rules, drops_used)
