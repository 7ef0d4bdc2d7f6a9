-- The header, then the values of guests and of slots: `converted_made`.
use Rattle.store.proofs.Converting.{guests_room, slots_room, guests_fit, slots_fit, converted_made}
use borrow.Author.Rules.{rules}
use Rattle.store.proofs.conversion.converted.Goals as goal

pub copy-requires : goal.copy-requires
copy-requires c = (search (rules, guests_room), search (rules, guests_fit))

pub copy-requires-2 : goal.copy-requires-2
copy-requires-2 c = (search (rules, slots_room), search (rules, slots_fit))

pub returns : goal.returns
returns c = search (rules, converted_made)
