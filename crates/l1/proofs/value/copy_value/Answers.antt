-- By its size (`copied`).
use Rattle.l1.proofs.Values.{copied, sized_four, four_fits}
use borrow.Author.Rules.{rules}
use Rattle.l1.proofs.value.copy_value.Goals as goal

pub returns-then-size-eq8 : goal.returns-then-size-eq8
returns-then-size-eq8 c = search (rules, copied)

pub returns-then-size-eq16 : goal.returns-then-size-eq16
returns-then-size-eq16 c = search (rules, copied)

pub copy-requires-2 : goal.copy-requires-2
copy-requires-2 c = (search (rules, four_fits), search (rules, four_fits))

pub returns : goal.returns
returns c = search (rules, copied, sized_four)
