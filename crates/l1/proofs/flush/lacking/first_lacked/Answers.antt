use Rattle.l1.proofs.Pending.{mark_here, mark_left, mark_above, mark_within, walk_start, walk_at, reached}
use Rattle.l1.proofs.Lacking.{lack_start, lack_none, index_fits, offset_fits, step_fits, lack_found, lack_index, lack_turn, lack_end, offers_all}
use Rattle.l1.specs.Private.{at_of, is_changed}
use Rattle.l1.specs.Marks.{is_marked}
use Rattle.l1.specs.Cache.{chosen}
use Rattle.exits.specs.Exits.{weigh}
use Rattle.store.specs.Search.{first}
use Prim.Native.Nat.{ℕ, ◌+◌, ◌-◌, ◌≤◌}
use lib.ListN.{length}
use mathlib.Core.Bool.{true, not}
use native.Mathlib.Nat.{le_refl}
use native.Mathlib.Omega.{arith}
use mathlib.Core.Path.{◌≡◌, refl, ap, subst}
use borrow.Author.Rules.{rules}
use Rattle.l1.proofs.flush.lacking.first_lacked.Goals as goal

pub loop-next-init : goal.loop-next-init
loop-next-init c = (search (rules, mark_above), search (rules, mark_within), search (rules, mark_left), search (rules, mark_here), search (rules, lack_start), search (rules, walk_start), search (rules, lack_none))

pub returns-then-not-is_offered : goal.returns-then-not-is_offered
returns-then-not-is_offered c =
    let q = ap at_of c.in-Some.is in
    let m = c.args.marks.now in
    let low = subst (λ (i : ℕ). 192 ≤ i) q c.loop-next.invariant.0 in
    let e = subst (λ (i : ℕ). i ≡ first (is_marked m) (384 - i) i) q c.loop-next.invariant.3 in
    let x = subst (λ (i : ℕ). c.loop-next.index ≡ length (chosen (is_changed m) (reached i))) q c.loop-next.invariant.4 in
    let w = subst (λ (i : ℕ). c.loop-next.offset ≡ 4 + weigh (chosen (is_changed m) (reached i))) q c.loop-next.invariant.5 in
    let h = subst (λ (i : ℕ). offers_all c.args.offer (chosen (is_changed m) (reached i)) ≡ true) q c.loop-next.invariant.6 in
    lack_found c.args.offer m c.in-Some.mark.at _ _ x w h low (omega arith) e _ c.thread_element-x.ensures _ c.is_offered.ensures (ap not c.if-not-is_offered.true)

pub overflow_add-index : goal.overflow_add-index
overflow_add-index c = search (rules, index_fits)

pub overflow_add-offset : goal.overflow_add-offset
overflow_add-offset c = search (rules, offset_fits)

pub overflow_add-offset-in-Some : goal.overflow_add-offset-in-Some
overflow_add-offset-in-Some c =
    let q = ap at_of c.in-Some.is in
    let m = c.args.marks.now in
    let low = subst (λ (i : ℕ). 192 ≤ i) q c.loop-next.invariant.0 in
    let e = subst (λ (i : ℕ). i ≡ first (is_marked m) (384 - i) i) q c.loop-next.invariant.3 in
    let x = subst (λ (i : ℕ). c.loop-next.index ≡ length (chosen (is_changed m) (reached i))) q c.loop-next.invariant.4 in
    let w = subst (λ (i : ℕ). c.loop-next.offset ≡ 4 + weigh (chosen (is_changed m) (reached i))) q c.loop-next.invariant.5 in
    let h = subst (λ (i : ℕ). offers_all c.args.offer (chosen (is_changed m) (reached i)) ≡ true) q c.loop-next.invariant.6 in
    record { fits = step_fits c.args.offer m c.in-Some.mark.at _ _ x w h low (omega arith) e _ c.thread_element-x.ensures }

pub loop-next-smaller : goal.loop-next-smaller
loop-next-smaller c = let q = ap at_of c.in-Some.is in omega (arith, mark_above _ _ _ _ c.next_mark-next.ensures (le_refl _), q)

pub loop-next-preserved : goal.loop-next-preserved
loop-next-preserved c =
    let q = ap at_of c.in-Some.is in
    let m = c.args.marks.now in
    let low = subst (λ (i : ℕ). 192 ≤ i) q c.loop-next.invariant.0 in
    let e = subst (λ (i : ℕ). i ≡ first (is_marked m) (384 - i) i) q c.loop-next.invariant.3 in
    let x = subst (λ (i : ℕ). c.loop-next.index ≡ length (chosen (is_changed m) (reached i))) q c.loop-next.invariant.4 in
    let w = subst (λ (i : ℕ). c.loop-next.offset ≡ 4 + weigh (chosen (is_changed m) (reached i))) q c.loop-next.invariant.5 in
    let h = subst (λ (i : ℕ). offers_all c.args.offer (chosen (is_changed m) (reached i)) ≡ true) q c.loop-next.invariant.6 in
    let k = c.next_mark-next.ensures in
    let n = ap not c.if-not-is_offered.false in (
      mark_above _ _ _ _ k (omega arith),
      mark_within _ _ _ k,
      mark_left _ _ _ k,
      mark_here _ _ _ k,
      lack_index c.args.offer m c.in-Some.mark.at _ _ x w h low (omega arith) e _ c.thread_element-x.ensures _ c.is_offered.ensures n _ k,
      walk_at m c.in-Some.mark.at _ low (omega arith) e _ _ c.thread_element-x.ensures w _ refl k,
      lack_turn c.args.offer m c.in-Some.mark.at _ _ x w h low (omega arith) e _ c.thread_element-x.ensures _ c.is_offered.ensures n _ k,
    )

pub returns-then-mark-ge362 : goal.returns-then-mark-ge362
returns-then-mark-ge362 c =
    let q = ap at_of c.in-Some.is in
    let v = c.loop-next.invariant in
    lack_end _ _ _ _ _ v.4 v.5 v.6 (omega (arith, q, c.if-mark-ge362.true))

pub returns-in_default : goal.returns-in_default
returns-in_default c =
    let q = ap at_of c.in_default.is in
    let v = c.loop-next.invariant in
    lack_end _ _ _ _ _ v.4 v.5 v.6 (omega (arith, q))
