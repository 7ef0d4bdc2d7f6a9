use Rattle.transfer.proofs.Moving.{ready_at, since_next, since_place, since_length, other_same, moved_on}
use mathlib.Core.Path.{refl}
use borrow.Author.Rules.{rules}
use Rattle.transfer.proofs.store_registers.Goals as goal

pub loop-i-init : goal.loop-i-init
loop-i-init c = (search rules, search rules, search rules, refl, λ u e. e)

pub store_register-requires : goal.store_register-requires
store_register-requires c = search (rules, ready_at)

pub returns-in_default : goal.returns-in_default
returns-in_default c =
    let inv = c.loop-i.invariant in
    moved_on _ _ _ _ _ _ _ _ _ inv.0 inv.1 inv.2 inv.4 (other_same _ _ _ _ _ _ c.store_register.ensures c.in_default.is)

pub loop-i-preserved : goal.loop-i-preserved
loop-i-preserved c = (search rules, search rules, search (rules, since_place), search (rules, since_length), search (rules, since_next))

pub returns : goal.returns
returns c = search (rules, moved_on)
