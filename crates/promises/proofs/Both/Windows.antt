-- Values at two places, the same bytes: what a buffer does to them, and they to it, is the same. `base` of s and `place` of t have the
-- same n bytes. Assumes nothing.
use mathlib.Core.Path.{◌≡◌, refl, sym, ap, ap₂, ◌∙◌}
use mathlib.Core.Bool.{true}
use mathlib.Core.List.{List, [], ◌∷◌}
use Prim.Native.Nat.{ℕ, zero, suc, ◌+◌, ◌≤◌, ◌<◌}
use native.Mathlib.Omega.{arith}
use lib.Dec.{leb, ltb}
use lib.ListN.{length}
use borrow.Author.Tests.{leb-true}
use Rattle.octets.specs.Bytes.{bytes_at, put, be}
use Rattle.octets.proofs.Bytes.{length_bytes_at, part_of_part, put_inside}
use Rattle.octets.proofs.Numbers.{be_part}
use Rattle.elements.specs.declared.Source.{Source}
use Rattle.elements.specs.declared.Source.TheVariants.{Fixed, Stored}
use Rattle.elements.specs.declared.Kind.{Kind}
use Rattle.elements.specs.declared.Kind.TheVariants.{Unlisted, Nop, Listed}
use Rattle.elements.specs.Table.{kind_of, number_of}
use Rattle.elements.specs.Right.{bytes_of}
use Rattle.rules.specs.declared.Context.{Context}
use Rattle.rules.specs.Rules.{size_fits, scope_for}
use Rattle.rules.proofs.Rules.{size_listed}
use Rattle.gsb.specs.Message.{message}
use Rattle.gsb.specs.Walk.{count_of, id_at, size_at, offset_at, first_bad}
use Rattle.store.specs.Layout.{slot_bytes}
use Rattle.store.proofs.Search.{both}
use Rattle.transfer.specs.Transfer.{value_at, put_from, put_as, applied, read_from, fill_as, filled}
use Rattle.transfer.proofs.Named.{counted_good, element_within}
use Rattle.exits.specs.Exits.{returned, element_of, valued, output_of}
use Rattle.exits.proofs.Written.{all_fit, returned_fit}
use Rattle.std.proofs.Common.{Ok}

-- ---- a part of them, and a number among them
module _ (base place n : ℕ) where
  pub part_both : (s t : List ℕ) → bytes_at t place n ≡ bytes_at s base n → (p k : ℕ) → p + k ≤ n → bytes_at t (place + p) k ≡ bytes_at s (base + p) k
  part_both s t e p k h = sym (part_of_part t place n p k h) ∙ ap (λ (x : List ℕ). bytes_at x p k) e ∙ part_of_part s base n p k h

  pub be_both : (s t : List ℕ) → bytes_at t place n ≡ bytes_at s base n → (p k : ℕ) → p + k ≤ n → be t (place + p) k ≡ be s (base + p) k
  be_both s t e p k h = sym (be_part t place n p k h) ∙ ap (λ (x : List ℕ). be x p k) e ∙ be_part s base n p k h

  pub put_both : (s t : List ℕ) → bytes_at t place n ≡ bytes_at s base n → (p : ℕ) (v : List ℕ) → p + length v ≤ n
      → bytes_at (put t (place + p) v) place n ≡ bytes_at (put s (base + p) v) base n
  put_both s t e p v h = put_inside t place v p n h ∙ ap (λ (x : List ℕ). put x p v) e ∙ sym (put_inside s base v p n h)

-- ---- an accepted buffer
module _ (k : Context) (b : List ℕ) (d : first_bad k b ≡ Ok tt) where
  abbrev room : ℕ
  room = bytes_of (scope_for k.usage)

  module _ (base place : ℕ) where
    element_both : (i : ℕ) → i < count_of b → (s t : List ℕ) → bytes_at t place room ≡ bytes_at s base room → (kind : Kind) → kind_of (id_at b (offset_at b i)) ≡ kind → size_fits kind (size_at b (offset_at b i)) ≡ true
        → bytes_at (put_as kind place (value_at b (offset_at b i)) t) place room ≡ bytes_at (put_as kind base (value_at b (offset_at b i)) s) base room
    unfolding put_as put_from
    element_both i h s t q Unlisted e f = q
    element_both i h s t q Nop e f = q
    element_both i h s t q (Listed x) e f = go x.source refl
      where
        long : length (value_at b (offset_at b i)) ≡ x.size
        long = length_bytes_at b (offset_at b i + 4) (size_at b (offset_at b i)) (counted_good k b d i h).inside ∙ size_listed x (size_at b (offset_at b i)) f

        go : (y : Source) → x.source ≡ y → bytes_at (put_from y place (value_at b (offset_at b i)) t) place room ≡ bytes_at (put_from y base (value_at b (offset_at b i)) s) base room
        go (Fixed n) z = q
        go (Stored p) z = put_both base place room s t q p (value_at b (offset_at b i)) (omega (arith, long, element_within k b d i h x p e z))

    pub applied_both : (n : ℕ) → n ≤ count_of b → (s t : List ℕ) → bytes_at t place room ≡ bytes_at s base room → bytes_at (applied place b n t) place room ≡ bytes_at (applied base b n s) base room
    unfolding applied
    applied_both zero h s t q = q
    applied_both (suc n) h s t q =
        element_both n (omega arith) (applied base b n s) (applied place b n t) (applied_both n (omega arith) s t q) (kind_of (id_at b (offset_at b n))) refl (counted_good k b d n (omega arith)).sized

    read_both : (i : ℕ) → i < count_of b → (s t a : List ℕ) → bytes_at t place room ≡ bytes_at s base room → (kind : Kind) → kind_of (id_at b (offset_at b i)) ≡ kind
        → fill_as kind place t (offset_at b i) a ≡ fill_as kind base s (offset_at b i) a
    unfolding fill_as read_from
    read_both i h s t a q Unlisted e = refl
    read_both i h s t a q Nop e = refl
    read_both i h s t a q (Listed x) e = ap (put a (offset_at b i + 4)) (go x.source refl)
      where
        go : (y : Source) → x.source ≡ y → read_from y place x.size t ≡ read_from y base x.size s
        go (Fixed n) z = refl
        go (Stored p) z = part_both base place room s t q p x.size (element_within k b d i h x p e z)

    pub filled_both : (n : ℕ) → n ≤ count_of b → (s t : List ℕ) → bytes_at t place room ≡ bytes_at s base room → filled place t b n ≡ filled base s b n
    unfolding filled
    filled_both zero h s t q = refl
    filled_both (suc n) h s t q =
        read_both n (omega arith) s t (filled place t b n) q (kind_of (id_at b (offset_at b n))) refl
        ∙ ap (fill_as (kind_of (id_at b (offset_at b n))) base s (offset_at b n)) (filled_both n (omega arith) s t q)

-- ---- the output of a run: the elements of every exit lie among a slot's values
module _ (base place : ℕ) (s t : List ℕ) (q : bytes_at t place slot_bytes ≡ bytes_at s base slot_bytes) where
  valued_both : (ids : List ℕ) → all_fit ids ≡ true → valued place t ids ≡ valued base s ids
  unfolding valued
  valued_both [] e = refl
  valued_both (id ∷ ids) e =
      let p = both _ (all_fit ids) e in
      let f = both (leb (element_of id).size 16) _ (both (ltb (number_of id) 170) _ p.0).1 in
      let z : (element_of id).position + (element_of id).size ≤ slot_bytes = leb-true _ _ f.1 in
      ap₂ (λ (x : List ℕ) (xs : List (ℕ × List ℕ)). (id, x) ∷ xs) (part_both base place slot_bytes s t q (element_of id).position (element_of id).size z) (valued_both ids p.1)

  pub output_both : (exit : ℕ) → output_of place t exit ≡ output_of base s exit
  unfolding output_of
  output_both exit = ap message (valued_both (returned exit) (returned_fit exit))
