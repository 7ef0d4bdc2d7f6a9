use Rattle.store.proofs.Noted.{noted_none}
use Rattle.store.proofs.Filtered.{filter_start, filter_bad, filter_turn, filter_noted, filter_end}
use mathlib.Core.Path.{ap}
use native.Mathlib.Omega.{arith}
use Prim.Native.Nat.{◌≤◌, ◌<◌}
use Rattle.store.specs.declared.Layout.{Layout}
use borrow.Author.Rules.{rules}
use Rattle.store.proofs.filter.words_filtered.Goals as goal

pub loop-a-init : goal.loop-a-init
loop-a-init c = (filter_start _ _, noted_none _ _)

pub returns-then-not-slot_filtered : goal.returns-then-not-slot_filtered
returns-then-not-slot_filtered c = let k : c.loop-a.a < c.args.l.slots = omega (arith, ap (λ (x : Layout). x.slots) c.l.view_is) in search (rules, filter_bad, k)

pub loop-a-preserved : goal.loop-a-preserved
loop-a-preserved c = (let k : c.loop-a.a < c.args.l.slots = omega (arith, ap (λ (x : Layout). x.slots) c.l.view_is) in search (rules, filter_turn, k), search (rules, filter_noted))

pub returns : goal.returns
returns c = let k : c.args.l.slots ≤ c.loop-a.a = omega (arith, ap (λ (x : Layout). x.slots) c.l.view_is) in search (rules, filter_end, k)
