-- Each return is a law of Filtered; `filter_new` is where the filter spares the comparison.
use Rattle.store.proofs.Filtered.{hashable, filter_zero, filter_unused, filter_dead, filter_new, filter_met}
use mathlib.Core.Path.{◌≡◌, ap, subst}
use native.Mathlib.Omega.{arith}
use Prim.Native.Nat.{◌≤◌, ◌/◌, ◌-◌}
use Rattle.store.specs.Header.{header, live}
use Rattle.store.specs.declared.Layout.{Layout}
use borrow.Author.Rules.{rules}
use Rattle.store.proofs.filter.slot_filtered.Goals.{then-w-l-via-then-w-l, then-w-l-via-else-w-l+then-not-is_live}
use Rattle.store.proofs.filter.slot_filtered.Goals as goal

pub returns-then-w-eq0 : goal.returns-then-w-eq0
returns-then-w-eq0 c = search (rules, filter_zero)

pub returns-then-w-l : goal.returns-then-w-l
returns-then-w-l c =
    elim c.then-w-l.branch [
      | then-w-l-via-then-w-l w ↦ search (rules, filter_unused)
      | then-w-l-via-else-w-l+then-not-is_live w ↦ search (rules, filter_dead)
    ]

pub note-requires : goal.note-requires
note-requires c = search (rules, hashable)

pub returns-then-not-note : goal.returns-then-not-note
returns-then-not-note c =
    let u : c.args.l.ids ≤ c.slot_word-w.result / 2048 = omega (arith, ap (λ (x : Layout). x.ids) c.l.view_is) in
    let g : c.is_live.result ≡ live c.args.l (header c.args.l c.args.s.now) (c.slot_word-w.result / 2048 - c.args.l.ids) =
    subst (λ (x : Layout). c.is_live.result ≡ live c.args.l (header c.args.l c.args.s.now) (c.slot_word-w.result / 2048 - x.ids)) c.l.view_is c.is_live.ensures in
    search (rules, filter_new, u, g)

pub returns : goal.returns
returns c =
    let u : c.args.l.ids ≤ c.slot_word-w.result / 2048 = omega (arith, ap (λ (x : Layout). x.ids) c.l.view_is) in
    let g : c.is_live.result ≡ live c.args.l (header c.args.l c.args.s.now) (c.slot_word-w.result / 2048 - c.args.l.ids) =
    subst (λ (x : Layout). c.is_live.result ≡ live c.args.l (header c.args.l c.args.s.now) (c.slot_word-w.result / 2048 - x.ids)) c.l.view_is c.is_live.ensures in
    search (rules, filter_met, u, g)
