use Rattle.store.proofs.Writes.{guests_none, guests_more, guests_all}
use mathlib.Core.Path.{refl}
use borrow.Author.Rules.{rules}
use Rattle.store.proofs.removal.no_guests.Goals as goal

pub loop-g-init : goal.loop-g-init
loop-g-init c = (refl, guests_none c.args.l _)

pub loop-g-preserved : goal.loop-g-preserved
loop-g-preserved c = (search rules, search (rules, guests_more))

pub returns : goal.returns
returns c = search (rules, guests_all)
