-- THEOREM `held_exactly`: the walk finds no fault and nothing is missing exactly if the buffer holds ours. Assumes that ours have no ID 0.
use mathlib.Core.Path.{◌≡◌, refl, sym, ap, ◌∙◌}
use mathlib.Core.Logic.{◌↔◌}
use mathlib.Core.Bool.{Bool, true, false, cond, not, ◌||◌, true≢false, false≢true}
use mathlib.Core.List.{List, [], ◌∷◌}
use Prim.Native.Nat.{ℕ, zero, suc, ◌+◌, ◌≤◌, ◌<◌}
use native.Mathlib.Omega.{arith}
use lib.Dec.{eqb}
use lib.ListN.{length}
use borrow.Author.Tests.{eq-eqb, ne_eqb, eqb-true, eqb-false}
use Rattle.octets.proofs.Bytes.{length_bytes_at}
use Rattle.answer.specs.declared.Fault.TheVariants.{None, Missing}
use Rattle.gsb.specs.Walk.{count_of, id_at, size_at, next_at, offset_at}
use Rattle.gsb.specs.Lookup.{framed}
use Rattle.gsb.specs.Join.{cut_of}
use Rattle.gsb.proofs.Walks.{offset_next}
use Rattle.gsb.proofs.First.{accepted_exactly}
use Rattle.gsb.proofs.LookupLaws.{framed_good, framed_inside, framed_leads}
use Rattle.gsb.specs.Message.{elements_in}
use Rattle.transfer.specs.Transfer.{value_at}
use Rattle.judging.specs.Judging.{is_ours, elements_of, times, is_repeated, compared, comparison, lacking}
use Rattle.judging.specs.Promised.{IsOurs, HoldsOurs}
use Rattle.judging.proofs.Elements.{Element, times_none, times_hit, times_miss, times_up, repeated_before, all_each, each_all}
use Rattle.judging.proofs.Compared.{Ours, Alike, compared_good, good_compared, compared_leads}
use Rattle.gsb.proofs.Shifted.{elements_none}
use Rattle.std.proofs.Common.{Ok}

-- ---- nothing is missing
no_missing : (n : ℕ) → Missing n ≡ None → ⊥
no_missing n e = let z : ◌≡◌ {A = ℕ} 0 1 = cc in omega arith

pub none_missing : (ours es : List Element) → lacking ours es ≡ None → (id : ℕ) → is_ours ours id ≡ true → times id es ≡ 0 → ⊥
unfolding lacking is_ours
none_missing [] es e id m z = false≢true m
none_missing (o ∷ ours) es e id m z = go (eqb (times o.0 es) 0) refl e (eqb o.0 id) refl m (none_missing ours es)
  where
    go : (t : Bool) → eqb (times o.0 es) 0 ≡ t → cond t (Missing o.0) (lacking ours es) ≡ None → (s : Bool) → eqb o.0 id ≡ s → (s || is_ours ours id) ≡ true
        → (lacking ours es ≡ None → (i : ℕ) → is_ours ours i ≡ true → times i es ≡ 0 → ⊥) → ⊥
    go true p q s r m ih = no_missing o.0 q
    go false p q true r m ih = eqb-false _ _ p (ap (λ (i : ℕ). times i es) (eqb-true _ _ r) ∙ z)
    go false p q false r m ih = ih q id m z

or_right : (s t : Bool) → t ≡ true → (s || t) ≡ true
or_right true t e = refl
or_right false t e = e

missing_none : (ours es : List Element) → ((id : ℕ) → is_ours ours id ≡ true → times id es ≡ 0 → ⊥) → lacking ours es ≡ None
unfolding lacking is_ours
missing_none [] es f = refl
missing_none (o ∷ ours) es f =
    let n : times o.0 es ≡ 0 → ⊥ = f o.0 (ap (λ (t : Bool). t || is_ours ours o.0) (eq-eqb o.0 o.0 refl)) in
    ap (λ (t : Bool). cond t (Missing o.0) (lacking ours es)) (ne_eqb _ _ n) ∙ missing_none ours es (λ id m. f id (or_right (eqb o.0 id) (is_ours ours id) m))

-- ---- walkable
pub inside_exactly : (b : List ℕ) → (cut_of b ≡ Ok tt) ↔ ((j : ℕ) → j < count_of b → next_at b (offset_at b j) ≤ length b)
inside_exactly b = (there, back)
  where
    there : cut_of b ≡ Ok tt → (j : ℕ) → j < count_of b → next_at b (offset_at b j) ≤ length b
    there e j h = (framed_inside b (offset_at b j) (offset_at b (j + 1)) (framed b (offset_at b j)) refl ((accepted_exactly (framed b) b (framed_leads b)).0 e j h)).1

    back : ((j : ℕ) → j < count_of b → next_at b (offset_at b j) ≤ length b) → cut_of b ≡ Ok tt
    back f =
        (accepted_exactly (framed b) b (framed_leads b)).1
        (λ j h. let k = f j h in sym (framed_good b (offset_at b j) (size_at b (offset_at b j)) (omega arith) refl (omega arith)) ∙ ap Ok (offset_next b j (offset_at b j) refl))

not_both : (n : ℕ) → not (eqb n 0) ≡ false → n ≡ 0
not_both n e = go (eqb n 0) refl e
  where
    go : (t : Bool) → eqb n 0 ≡ t → not t ≡ false → n ≡ 0
    go true p q = eqb-true _ _ p
    go false p q = absurd (true≢false q)

module _ (ours : List Element) (b : List ℕ) (nonzero : is_ours ours 0 ≡ false) where
  -- new is: none of those before has the ID
  new_before : (j : ℕ) → j < count_of b → is_repeated b (offset_at b j) (count_of b) ≡ false → times (id_at b (offset_at b j)) (elements_in b j) ≡ 0
  new_before j h e = not_both _ (sym (repeated_before b j (count_of b) (omega arith)) ∙ e)

  before_new : (j : ℕ) → j < count_of b → times (id_at b (offset_at b j)) (elements_in b j) ≡ 0 → is_repeated b (offset_at b j) (count_of b) ≡ false
  before_new j h e = repeated_before b j (count_of b) (omega arith) ∙ ap not (eq-eqb _ _ e)

  alike : comparison ours b ≡ Ok tt → (j : ℕ) → j < count_of b → Alike ours b (offset_at b j)
  alike e j h = (compared_good ours b (offset_at b j) (offset_at b (j + 1)) ((accepted_exactly (compared ours b) b (compared_leads ours b)).0 e j h)).0

  -- one of ours, whose ID is not 0, was seen at most once
  some : (id : ℕ) → is_ours ours id ≡ true → id ≡ 0 → ⊥
  some id m z = true≢false (sym m ∙ ap (is_ours ours) z ∙ nonzero)

  at_most : comparison ours b ≡ Ok tt → (id : ℕ) → is_ours ours id ≡ true → (n : ℕ) → n ≤ count_of b → times id (elements_in b n) ≤ 1
  at_most e id m zero h = omega (arith, ap (times id) (elements_none b), times_none id)
  at_most e id m (suc n) h = go (eqb (id_at b (offset_at b n)) id) refl (at_most e id m n (omega arith))
    where
      go : (t : Bool) → eqb (id_at b (offset_at b n)) id ≡ t → times id (elements_in b n) ≤ 1 → times id (elements_in b (suc n)) ≤ 1
      go true p ih =
          let q : id_at b (offset_at b n) ≡ id = eqb-true _ _ p in
          let o = (alike e n (omega arith)).mine (λ z. some id m (sym q ∙ z)) in
          let w : times id (elements_in b n) ≡ 0 = ap (λ (i : ℕ). times i (elements_in b n)) (sym q) ∙ new_before n (omega arith) o.new in
          omega (arith, w, times_hit b id n q)
      go false p ih = omega (arith, times_miss b id n (eqb-false _ _ p), ih)

  accepted_held : comparison ours b ≡ Ok tt → lacking ours (elements_of b) ≡ None → HoldsOurs ours b
  accepted_held e m = record {
    walkable = (inside_exactly b).1 (λ j h. (alike e j h).inside);
    once = λ id k. let n = none_missing ours (elements_of b) m id k in omega (arith, at_most e id k (count_of b) (omega arith), n);
    only = each_all (λ x. (x.0 ≡ 0 → ⊥) → IsOurs ours x) b (count_of b) (λ i h. λ n. let o = (alike e i h).mine n in (o.named, o.value));
  }

  held_alike : HoldsOurs ours b → (j : ℕ) → j < count_of b → Alike ours b (offset_at b j)
  held_alike w j h =
      let k = (inside_exactly b).0 w.walkable j h in
      record { header = omega arith; inside = k; mine = λ n. mine n k (all_each (λ x. (x.0 ≡ 0 → ⊥) → IsOurs ours x) b (count_of b) w.only j h n) }
    where
      mine : (id_at b (offset_at b j) ≡ 0 → ⊥) → next_at b (offset_at b j) ≤ length b → IsOurs ours (id_at b (offset_at b j), value_at b (offset_at b j)) → Ours ours b (offset_at b j)
      mine n k p =
          let o : times (id_at b (offset_at b j)) (elements_of b) ≡ 1 = w.once (id_at b (offset_at b j)) p.0 in
          let u = times_hit b (id_at b (offset_at b j)) j refl in
          record {
            named = p.0;
            new = before_new j h (omega (arith, o, u, times_up b (id_at b (offset_at b j)) (suc j) (count_of b) h));
            sized = sym (length_bytes_at b (offset_at b j + 4) (size_at b (offset_at b j)) k) ∙ ap length p.1;
            value = p.1;
          }

  pub held_exactly : ((comparison ours b ≡ Ok tt) × (lacking ours (elements_of b) ≡ None)) ↔ HoldsOurs ours b
  held_exactly = (
    (λ p. accepted_held p.0 p.1),
    (λ w. (
      (accepted_exactly (compared ours b) b (compared_leads ours b)).1
          (λ j h. good_compared ours b (offset_at b j) (held_alike w j h) ∙ ap Ok (offset_next b j (offset_at b j) refl)),
      missing_none ours (elements_of b) (λ id m z. let o : times id (elements_of b) ≡ 1 = w.once id m in omega arith),
    )),
  )
