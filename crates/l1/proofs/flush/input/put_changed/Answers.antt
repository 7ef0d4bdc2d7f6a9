use Rattle.l1.proofs.Pending.{mark_here, mark_left, mark_above, mark_within, mark_there, walk_start, walk_at, walk_room, walk_put, put_start, put_end, mark_small, reached, element_inside, element_small}
use Rattle.l1.specs.Private.{at_of, is_changed}
use Rattle.l1.specs.Marks.{is_marked}
use Rattle.l1.specs.Cache.{chosen}
use Rattle.exits.specs.Exits.{weigh, valued}
use Rattle.gsb.specs.Message.{elements_bytes}
use Rattle.octets.specs.Bytes.{put}
use Rattle.store.specs.Search.{first}
use Prim.Native.Nat.{ℕ, ◌+◌, ◌-◌, ◌≤◌}
use native.Mathlib.Nat.{le_refl}
use native.Mathlib.Omega.{arith}
use Rattle.elements.specs.declared.Offer.TheVariants.{Full}
use mathlib.Core.Path.{◌≡◌, ap, subst}
use borrow.Author.Rules.{rules}
use Rattle.l1.proofs.flush.input.put_changed.Goals as goal

pub loop-next-init : goal.loop-next-init
loop-next-init c = (search (rules, mark_above), search (rules, mark_within), search (rules, mark_left), search (rules, mark_here), search (rules, walk_start), search rules, search (rules, put_start), mark_there _ _ _ c.mark_from-next.ensures)

pub thread_element-x-requires : goal.thread_element-x-requires
thread_element-x-requires c =
    let q = ap at_of c.in-Some.is in
    let low = subst (λ (i : ℕ). 192 ≤ i) q c.loop-next.invariant.0 in
    let e = subst (λ (i : ℕ). i ≡ first (is_marked c.args.marks.now) (384 - i) i) q c.loop-next.invariant.3 in
    omega (arith, mark_small Full c.args.values.now c.args.marks.now c.requires.0 c.in-Some.mark.at low (c.loop-next.invariant.7 _ c.in-Some.is) e)

pub put_element-at-requires : goal.put_element-at-requires
put_element-at-requires c =
    let q = ap at_of c.in-Some.is in
    let m = c.args.marks.now in
    let low = subst (λ (i : ℕ). 192 ≤ i) q c.loop-next.invariant.0 in
    let e = subst (λ (i : ℕ). i ≡ first (is_marked m) (384 - i) i) q c.loop-next.invariant.3 in
    let w = subst (λ (i : ℕ). c.loop-next.at ≡ 4 + weigh (chosen (is_changed m) (reached i))) q c.loop-next.invariant.4 in
    let small = mark_small Full c.args.values.now m c.requires.0 c.in-Some.mark.at low (c.loop-next.invariant.7 _ c.in-Some.is) e in
    (walk_room m c.in-Some.mark.at c.loop-next.next low small e _ _ c.thread_element-x.ensures w _ _ c.requires.1 (omega arith), search (rules, element_inside, small), search (rules, element_small, small))

pub loop-next-smaller : goal.loop-next-smaller
loop-next-smaller c = let q = ap at_of c.in-Some.is in omega (arith, mark_above _ _ _ _ c.next_mark-next.ensures (le_refl _), q)

pub loop-next-preserved : goal.loop-next-preserved
loop-next-preserved c =
    let q = ap at_of c.in-Some.is in
    let m = c.args.marks.now in
    let low = subst (λ (i : ℕ). 192 ≤ i) q c.loop-next.invariant.0 in
    let e = subst (λ (i : ℕ). i ≡ first (is_marked m) (384 - i) i) q c.loop-next.invariant.3 in
    let w = subst (λ (i : ℕ). c.loop-next.at ≡ 4 + weigh (chosen (is_changed m) (reached i))) q c.loop-next.invariant.4 in
    let p = subst (λ (i : ℕ). c.loop-next.input ≡ put c.args.input.now 4 (elements_bytes (valued 0 c.args.values.now (chosen (is_changed m) (reached i))))) q c.loop-next.invariant.6 in
    let k = c.next_mark-next.ensures in
    let small = mark_small Full c.args.values.now m c.requires.0 c.in-Some.mark.at low (c.loop-next.invariant.7 _ c.in-Some.is) e in
    (mark_above _ _ _ _ k (omega arith), mark_within _ _ _ k, mark_left _ _ _ k, mark_here _ _ _ k, walk_at m c.in-Some.mark.at _ low small e _ _ c.thread_element-x.ensures w _ c.put_element-at.ensures.0 k, omega arith, walk_put m c.in-Some.mark.at _ low small e _ _ c.thread_element-x.ensures w _ _ _ _ c.told-values p c.put_element-at.ensures.1 k, mark_there _ _ _ k)

pub returns : goal.returns
returns c = let q = ap at_of c.in_default.is in put_end _ _ (omega (arith, q)) _ _ _ c.loop-next.invariant.6
