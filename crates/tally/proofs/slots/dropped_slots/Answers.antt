use Prim.Native.Nat.{◌≤◌, ◌-◌}
use mathlib.Core.Path.{◌≡◌, sym, subst}
use Rattle.store.specs.declared.Layout.{Layout}
use Rattle.tally.specs.Private.{mask_of}
use Rattle.tally.specs.Tally.{dropped}
use borrow.Author.Rules.{rules}
use Rattle.tally.proofs.Touching.{bit_small, mask_start, mask_more, mask_doubled, mask_added, mask_done}
use Rattle.tally.proofs.slots.dropped_slots.Goals as goal

pub loop-a-init : goal.loop-a-init
loop-a-init c = (search rules, subst (λ (x : Layout). 0 ≡ mask_of (dropped c.args.l c.args.store.now c.args.flags c.args.guest) (c.args.l.slots - x.slots) x.slots) (sym c.l.view_is) (mask_start _ _))

pub overflow_mul-mask : goal.overflow_mul-mask
overflow_mul-mask c = search (rules, mask_doubled)

pub overflow_add-mask : goal.overflow_add-mask
overflow_add-mask c = let small : c.from.result ≤ 1 = bit_small c.drops.result _ c.from.ensures in search (rules, mask_added)

pub loop-a-preserved : goal.loop-a-preserved
loop-a-preserved c = (search rules, search (rules, mask_more))

pub returns : goal.returns
returns c = search (rules, mask_done)
