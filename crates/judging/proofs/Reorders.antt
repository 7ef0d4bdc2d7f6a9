-- THEOREM `reordered_held`: a walkable buffer whose elements are ours in any order, with NOPs anywhere, holds ours. Assumes nothing.
use mathlib.Core.Path.{◌≡◌, refl, sym, ap, ◌∙◌, subst}
use mathlib.Core.Bool.{Bool, true, false, cond, ◌||◌, true≢false, false≢true}
use mathlib.Core.List.{List, [], ◌∷◌, ◌++◌}
use Prim.Native.Nat.{ℕ, ◌+◌}
use native.Mathlib.Omega.{arith}
use lib.Dec.{eqb}
use borrow.Author.Tests.{eq-eqb, ne_eqb, eqb-true}
use Rattle.gsb.specs.Join.{cut_of}
use Rattle.judging.specs.Judging.{is_ours, our_value, elements_of, times}
use Rattle.judging.specs.Promised.{AllOf, IsOurs, HoldsOurs, Reordered}
use Rattle.judging.proofs.Elements.{Element, times_none, times_append, all_append, all_left, all_right, all_map}
use Rattle.std.proofs.Common.{Ok}

-- ---- lists without an ID twice and without ID 0
abbrev pub Distinct : List Element → Type 0
Distinct [] = Unit {0}
Distinct (e ∷ es) = (e.0 ≡ 0 → ⊥) × ((is_ours es e.0 ≡ false) × Distinct es)

times_cons : (id : ℕ) (e : Element) (es : List Element) → times id (e ∷ es) ≡ cond (eqb e.0 id) 1 0 + times id es
unfolding times
times_cons id e es = refl

pub ours_cons : (e : Element) (es : List Element) (id : ℕ) → is_ours (e ∷ es) id ≡ (eqb e.0 id || is_ours es id)
unfolding is_ours
ours_cons e es id = refl

value_cons : (e : Element) (es : List Element) (id : ℕ) → our_value (e ∷ es) id ≡ cond (eqb e.0 id) e.1 (our_value es id)
unfolding our_value
value_cons e es id = refl

pub distinct_nonzero : (es : List Element) → Distinct es → is_ours es 0 ≡ false
unfolding is_ours
distinct_nonzero [] d = refl
distinct_nonzero (e ∷ es) d = ap (λ (t : Bool). t || is_ours es 0) (ne_eqb _ _ d.0) ∙ distinct_nonzero es d.1.1

not_there : (es : List Element) (id : ℕ) → is_ours es id ≡ false → times id es ≡ 0
unfolding is_ours times
not_there [] id e = refl
not_there (o ∷ es) id e = go (eqb o.0 id) e (not_there es id)
  where
    go : (t : Bool) → (t || is_ours es id) ≡ false → (is_ours es id ≡ false → times id es ≡ 0) → cond t 1 0 + times id es ≡ 0
    go true q ih = absurd (true≢false q)
    go false q ih = omega (arith, ih q)

there_once : (es : List Element) → Distinct es → (id : ℕ) → is_ours es id ≡ true → times id es ≡ 1
unfolding is_ours times
there_once [] d id e = absurd (false≢true e)
there_once (o ∷ es) d id e = go (eqb o.0 id) refl e (there_once es d.1.1 id)
  where
    go : (t : Bool) → eqb o.0 id ≡ t → (t || is_ours es id) ≡ true → (is_ours es id ≡ true → times id es ≡ 1) → cond t 1 0 + times id es ≡ 1
    go true p q ih =
        let z : times id es ≡ 0 = not_there es id (ap (is_ours es) (sym (eqb-true _ _ p)) ∙ d.1.0) in
        omega (arith, z)
    go false p q ih = omega (arith, ih q)

-- each has its own value
all_ours : (es : List Element) → Distinct es → AllOf (IsOurs es) es
all_ours [] d = tt
all_ours (o ∷ es) d = (
  (ours_cons o es o.0 ∙ ap (λ (t : Bool). t || is_ours es o.0) self, sym (value_cons o es o.0 ∙ ap (λ (t : Bool). cond t o.1 (our_value es o.0)) self)),
  all_map (IsOurs es) (IsOurs (o ∷ es)) es behind (all_ours es d.1.1),
)
  where
    self : eqb o.0 o.0 ≡ true
    self = eq-eqb o.0 o.0 refl

    behind : (e : Element) → IsOurs es e → IsOurs (o ∷ es) e
    behind e n =
        let ne : o.0 ≡ e.0 → ⊥ = λ q. true≢false (sym n.0 ∙ ap (is_ours es) (sym q) ∙ d.1.0) in
        let t : eqb o.0 e.0 ≡ false = ne_eqb _ _ ne in
        (ours_cons o es e.0 ∙ ap (λ (s : Bool). s || is_ours es e.0) t ∙ n.0, sym (value_cons o es e.0 ∙ ap (λ (s : Bool). cond s o.1 (our_value es e.0)) t ∙ sym n.1))

-- ---- a reordering
nop_times : (fs : List Element) → AllOf (λ f. f.0 ≡ 0) fs → (id : ℕ) → (id ≡ 0 → ⊥) → times id fs ≡ 0
unfolding times
nop_times [] a id n = refl
nop_times (f ∷ fs) a id n =
    let ne : f.0 ≡ id → ⊥ = λ q. n (sym q ∙ a.0) in
    ap (λ (t : Bool). cond t 1 0 + times id fs) (ne_eqb _ _ ne) ∙ omega (arith, nop_times fs a.1 id n)

reordered_times : (es fs : List Element) → Reordered es fs → (id : ℕ) → (id ≡ 0 → ⊥) → times id fs ≡ times id es
unfolding Reordered
reordered_times [] fs s id n = nop_times fs s id n ∙ sym (times_none id)
reordered_times (e ∷ es) fs s id n =
    let ih = reordered_times es (s.0 ++ s.1) s.3 id n in
    ap (times id) s.2 ∙ times_append id s.0 (e ∷ s.1)
    ∙ omega (arith, times_cons id e s.1, times_cons id e es, times_append id s.0 s.1, ih)

reordered_all : (P : Element → Type 0) → ((f : Element) → f.0 ≡ 0 → P f) → (es fs : List Element) → Reordered es fs → AllOf P es → AllOf P fs
unfolding Reordered
reordered_all P z [] fs s a = all_map (λ f. f.0 ≡ 0) P fs z s
reordered_all P z (e ∷ es) fs s a =
    let ih = reordered_all P z es (s.0 ++ s.1) s.3 a.1 in
    subst (AllOf P) (sym s.2) (all_append P s.0 (e ∷ s.1) (all_left P s.0 s.1 ih) (a.0, all_right P s.0 s.1 ih))

pub reordered_self : (es : List Element) → Reordered es es
unfolding Reordered
reordered_self [] = tt
reordered_self (e ∷ es) = ([], es, refl, reordered_self es)

pub reordered_held : (ours : List Element) → Distinct ours → (b : List ℕ) → cut_of b ≡ Ok tt → Reordered ours (elements_of b) → HoldsOurs ours b
reordered_held ours d b w s = record {
  walkable = w;
  once = λ id m. reordered_times ours (elements_of b) s id (λ z. true≢false (sym m ∙ ap (is_ours ours) z ∙ distinct_nonzero ours d)) ∙ there_once ours d id m;
  only = reordered_all (λ e. (e.0 ≡ 0 → ⊥) → IsOurs ours e) (λ f z n. absurd (n z)) ours (elements_of b) s
      (all_map (IsOurs ours) (λ e. (e.0 ≡ 0 → ⊥) → IsOurs ours e) ours (λ e p n. p) (all_ours ours d));
}
