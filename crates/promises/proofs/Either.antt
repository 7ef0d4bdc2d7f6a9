-- Two good buffers that share no ID but the NOP, applied in either order, leave the same. Assumes nothing.
use mathlib.Core.Path.{◌≡◌, refl, sym, ap, ◌∙◌}
use mathlib.Core.Bool.{true}
use mathlib.Core.List.{List}
use Prim.Native.Nat.{ℕ, zero, suc, ◌+◌, ◌≤◌, ◌<◌}
use native.Mathlib.Decide.{dec_lt}
use native.Mathlib.Omega.{arith}
use lib.ListN.{length}
use Rattle.octets.specs.Bytes.{Clear, left, right}
use Rattle.octets.proofs.Bytes.{length_bytes_at, put_comm}
use Rattle.elements.specs.declared.Source.{Source}
use Rattle.elements.specs.declared.Source.TheVariants.{Fixed, Stored}
use Rattle.elements.specs.declared.Scope.{Scope}
use Rattle.elements.specs.declared.Entry.{Entry}
use Rattle.elements.specs.declared.Kind.{Kind}
use Rattle.elements.specs.declared.Kind.TheVariants.{Unlisted, Nop, Listed}
use Rattle.elements.specs.Table.{kind_of, position}
use Rattle.elements.proofs.Table.{source_stored, position_apart}
use Rattle.rules.specs.declared.Context.{Context}
use Rattle.rules.specs.Rules.{scope_for, permits, size_fits}
use Rattle.rules.proofs.Rules.{size_listed, permits_scope}
use Rattle.gsb.specs.Walk.{count_of, id_at, size_at, offset_at, first_bad}
use Rattle.gsb.proofs.Judged.{GoodElement, nop}
use Rattle.gsb.proofs.First.{element_good_lem}
use Rattle.transfer.specs.Transfer.{value_at, put_from, put_as, applied}
use Rattle.transfer.proofs.Moving.{apply_start, apply_more}
use Rattle.promises.specs.Joining.{ShareNoId}
use Rattle.std.proofs.Common.{Ok}

-- ---- two elements of different IDs, or one a NOP
module _ (k : Context) (base : ℕ) (i j : ℕ) (v w : List ℕ)
    (pi : permits k i (kind_of i) ≡ true) (fi : size_fits (kind_of i) (length v) ≡ true)
    (pj : permits k j (kind_of j) ≡ true) (fj : size_fits (kind_of j) (length w) ≡ true) (apart : i ≡ j → i ≡ 0) where
  -- a listed one is no NOP
  listed_some : (x : Entry) → kind_of i ≡ Listed x → i ≡ 0 → ⊥
  listed_some x e z = let c : Nop ≡ Listed x = sym nop ∙ ap kind_of (sym z) ∙ e in let q : ◌≡◌ {A = ℕ} 0 1 = cc in omega arith

  -- their values lie side by side
  clear : (x y : Entry) (p q : ℕ) → kind_of i ≡ Listed x → kind_of j ≡ Listed y → x.source ≡ Stored p → y.source ≡ Stored q
      → permits k i (Listed x) ≡ true → permits k j (Listed y) ≡ true → length v ≡ x.size → length w ≡ y.size → Clear (base + p) (length v) (base + q) (length w)
  clear x y p q ex ey sx sy px py lx ly = go (dec_lt i j)
    where
      s : x.scope ≡ scope_for k.usage
      s = permits_scope k i x px

      t : y.scope ≡ scope_for k.usage
      t = permits_scope k j y py

      c : p ≡ position (scope_for k.usage) i
      c = (source_stored i x p ex sx).1 ∙ ap (λ (z : Scope). position z i) s

      e : q ≡ position (scope_for k.usage) j
      e = (source_stored j y q ey sy).1 ∙ ap (λ (z : Scope). position z j) t

      go : Dec (i < j) → Clear (base + p) (length v) (base + q) (length w)
      go (yes h) = left (omega (arith, c, e, position_apart (scope_for k.usage) i j x ex s (source_stored i x p ex sx).0 h, lx))
      go (no h) =
          let n : i ≡ j → ⊥ = λ z. listed_some x ex (apart z) in
          right (omega (arith, c, e, position_apart (scope_for k.usage) j i y ey t (source_stored j y q ey sy).0 (omega (arith, n)), ly))

  swap : (s : List ℕ) → put_as (kind_of i) base v (put_as (kind_of j) base w s) ≡ put_as (kind_of j) base w (put_as (kind_of i) base v s)
  unfolding put_as put_from
  swap s = go (kind_of i) (kind_of j) refl refl pi pj fi fj
    where
      stored : (x y : Entry) → kind_of i ≡ Listed x → kind_of j ≡ Listed y → permits k i (Listed x) ≡ true → permits k j (Listed y) ≡ true → length v ≡ x.size → length w ≡ y.size
          → (a b : Source) → x.source ≡ a → y.source ≡ b → put_from a base v (put_from b base w s) ≡ put_from b base w (put_from a base v s)
      stored x y ex ey px py lx ly (Fixed n) b q r = refl
      stored x y ex ey px py lx ly (Stored p) (Fixed n) q r = refl
      stored x y ex ey px py lx ly (Stored p) (Stored m) q r = sym (put_comm s (base + p) v (base + m) w (clear x y p m ex ey q r px py lx ly))

      go : (x y : Kind) → kind_of i ≡ x → kind_of j ≡ y → permits k i x ≡ true → permits k j y ≡ true → size_fits x (length v) ≡ true → size_fits y (length w) ≡ true
          → put_as x base v (put_as y base w s) ≡ put_as y base w (put_as x base v s)
      go Unlisted y e f p q g h = refl
      go Nop y e f p q g h = refl
      go (Listed x) Unlisted e f p q g h = refl
      go (Listed x) Nop e f p q g h = refl
      go (Listed x) (Listed y) e f p q g h = stored x y e f p q (size_listed x (length v) g) (size_listed y (length w) h) x.source y.source refl refl

-- ---- two buffers
module _ (k : Context) (base : ℕ) (a b : List ℕ) (ga : first_bad k a ≡ Ok tt) (gb : first_bad k b ≡ Ok tt) (apart : ShareNoId a b) where
  -- the store s with element i of a buffer c
  abbrev with : List ℕ → ℕ → List ℕ → List ℕ
  with c i s = put_as (kind_of (id_at c (offset_at c i))) base (value_at c (offset_at c i)) s

  fits_of : (c : List ℕ) (at : ℕ) → GoodElement k c at → size_fits (kind_of (id_at c at)) (length (value_at c at)) ≡ true
  fits_of c at g = ap (size_fits (kind_of (id_at c at))) (length_bytes_at c (at + 4) (size_at c at) g.inside) ∙ g.sized

  -- one element of the first before the second, or behind it
  over_one : (i : ℕ) → i < count_of a → (m : ℕ) → m ≤ count_of b → (s : List ℕ) → applied base b m (with a i s) ≡ with a i (applied base b m s)
  over_one i h zero l s = sym (apply_start base b (with a i s)) ∙ ap (with a i) (apply_start base b s)
  over_one i h (suc m) l s =
      let x = element_good_lem k a ga i h in
      let y = element_good_lem k b gb m (omega arith) in
      apply_more base b (with a i s) m
      ∙ ap (with b m) (over_one i h m (omega arith) s)
      ∙ sym (swap k base (id_at a (offset_at a i)) (id_at b (offset_at b m)) (value_at a (offset_at a i)) (value_at b (offset_at b m))
      x.permitted (fits_of a (offset_at a i) x) y.permitted (fits_of b (offset_at b m) y) (apart i m h (omega arith)) (applied base b m s))
      ∙ ap (with a i) (sym (apply_more base b s m))

  over_all : (n : ℕ) → n ≤ count_of a → (s : List ℕ) → applied base b (count_of b) (applied base a n s) ≡ applied base a n (applied base b (count_of b) s)
  over_all zero l s = ap (applied base b (count_of b)) (sym (apply_start base a s)) ∙ apply_start base a (applied base b (count_of b) s)
  over_all (suc n) l s =
      ap (applied base b (count_of b)) (apply_more base a s n)
      ∙ over_one n (omega arith) (count_of b) (omega arith) (applied base a n s)
      ∙ ap (with a n) (over_all n (omega arith) s)
      ∙ sym (apply_more base a (applied base b (count_of b) s) n)

  pub applied_either : (s : List ℕ) → applied base b (count_of b) (applied base a (count_of a) s) ≡ applied base a (count_of a) (applied base b (count_of b) s)
  applied_either s = over_all (count_of a) (omega arith) s
