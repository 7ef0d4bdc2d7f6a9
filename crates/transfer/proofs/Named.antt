-- THEOREM `only-named`, of the values: a byte changes only if it belongs to an element that is named. Assumes nothing.
use mathlib.Core.Path.{◌≡◌, refl, sym, ap, ◌∙◌}
use mathlib.Core.Bool.{true}
use mathlib.Core.List.{List}
use Prim.Native.Nat.{ℕ, zero, suc, ◌+◌, ◌≤◌, ◌<◌}
use native.Mathlib.Decide.{dec_lt}
use native.Mathlib.Omega.{arith}
use lib.ListN.{length, get_or}
use Rattle.octets.specs.Bytes.{bytes_at, put, Clear, left, right}
use Rattle.octets.proofs.Bytes.{length_bytes_at, part_ext, get_or_put_other}
use Rattle.elements.specs.declared.Source.{Source}
use Rattle.elements.specs.declared.Source.TheVariants.{Fixed, Stored}
use Rattle.elements.specs.declared.Entry.{Entry}
use Rattle.elements.specs.declared.Kind.{Kind}
use Rattle.elements.specs.declared.Kind.TheVariants.{Unlisted, Nop, Listed}
use Rattle.rules.specs.declared.Context.{Context}
use Rattle.elements.specs.Table.{kind_of}
use Rattle.rules.specs.Rules.{permits, size_fits, scope_for}
use Rattle.elements.specs.Right.{bytes_of}
use Rattle.elements.proofs.Table.{position_end, source_stored}
use Rattle.rules.proofs.Rules.{size_listed, permits_scope}
use Rattle.gsb.specs.Walk.{count_of, id_at, size_at, next_at, offset_at, first_bad}
use Rattle.gsb.proofs.Judged.{GoodElement, good_element}
use Rattle.gsb.proofs.First.{all_good}
use Rattle.transfer.specs.Transfer.{value_at, put_from, put_as, applied, read_from, fill_as, filled, Moves, AllReady}
use Rattle.transfer.specs.Named.{Named, ValueByte}
use Rattle.transfer.proofs.Moving.{length_read, length_applied}
use Rattle.std.proofs.Common.{Ok}

module _ (k : Context) (b : List ℕ) (d : first_bad k b ≡ Ok tt) where
  pub counted_good : (i : ℕ) → i < count_of b → GoodElement k b (offset_at b i)
  counted_good i l = (good_element k b (offset_at b i) (offset_at b (i + 1)) ((all_good k b).0 d i l)).0

  -- a counted element's value lies among the values of the use's scope
  pub element_within : (i : ℕ) → i < count_of b → (x : Entry) (p : ℕ) → kind_of (id_at b (offset_at b i)) ≡ Listed x → x.source ≡ Stored p → p + x.size ≤ bytes_of (scope_for k.usage)
  element_within i h x p e st =
      let id = id_at b (offset_at b i) in
      let a : permits k id (Listed x) ≡ true = ap (permits k id) (sym e) ∙ (counted_good i h).permitted in
      let f = source_stored id x p e st in
      let y = position_end x.scope id x e refl f.0 in
      let z : bytes_of x.scope ≡ bytes_of (scope_for k.usage) = ap bytes_of (permits_scope k id x a) in
      omega (arith, y, z, f.1)

module _ (k : Context) (base : ℕ) (b : List ℕ) (d : first_bad k b ≡ Ok tt) where
  -- one element stored
  element_frame : (i j : ℕ) (s : List ℕ) → i < count_of b → (Named base b (suc i) j → ⊥) → (kind : Kind) → kind_of (id_at b (offset_at b i)) ≡ kind → size_fits kind (size_at b (offset_at b i)) ≡ true
      → get_or (put_as kind base (value_at b (offset_at b i)) s) j 0 ≡ get_or s j 0
  unfolding put_as put_from
  element_frame i j s l out Unlisted e f = refl
  element_frame i j s l out Nop e f = refl
  element_frame i j s l out (Listed x) e f = go x.source refl
    where
      long : length (value_at b (offset_at b i)) ≡ x.size
      long = length_bytes_at b (offset_at b i + 4) (size_at b (offset_at b i)) (counted_good k b d i l).inside ∙ size_listed x (size_at b (offset_at b i)) f

      apart : (p : ℕ) → x.source ≡ Stored p → Dec (j < base + p) → Dec (j < base + p + x.size) → get_or (put s (base + p) (value_at b (offset_at b i))) j 0 ≡ get_or s j 0
      apart p q (yes m) v = get_or_put_other s (base + p) (value_at b (offset_at b i)) j (right (omega arith))
      apart p q (no m) (no v) = get_or_put_other s (base + p) (value_at b (offset_at b i)) j (left (omega (arith, long)))
      apart p q (no m) (yes v) = absurd (out (record { index = i; counted = omega arith; entry = x; place = p; listed = e; stored = q; from = omega arith; below = v }))

      go : (y : Source) → x.source ≡ y → get_or (put_from y base (value_at b (offset_at b i)) s) j 0 ≡ get_or s j 0
      go (Fixed m) q = refl
      go (Stored p) q = apart p q (dec_lt j (base + p)) (dec_lt j (base + p + x.size))

  more : (n j : ℕ) → Named base b n j → Named base b (suc n) j
  more n j m = record { index = m.index; counted = omega (arith, m.counted); entry = m.entry; place = m.place; listed = m.listed; stored = m.stored; from = m.from; below = m.below }

  pub applied_frame : (n j : ℕ) (s : List ℕ) → n ≤ count_of b → (Named base b n j → ⊥) → get_or (applied base b n s) j 0 ≡ get_or s j 0
  unfolding applied
  applied_frame zero j s h out = refl
  applied_frame (suc n) j s h out =
      element_frame n j (applied base b n s) (omega arith) out (kind_of (id_at b (offset_at b n))) refl (counted_good k b d n (omega arith)).sized
      ∙ applied_frame n j s (omega arith) (λ m. out (more n j m))

  -- a named byte lies among the values of the use's scope
  pub named_within : (n j : ℕ) → n ≤ count_of b → Named base b n j → (base ≤ j) × (j < base + bytes_of (scope_for k.usage))
  named_within n j h m =
      let e = element_within k b d m.index (omega (arith, m.counted)) m.entry m.place m.listed m.stored in
      (omega (arith, m.from), omega (arith, m.below, e))

  -- so a part of the store beside those values is as it was
  pub beside : (s : List ℕ) (i n : ℕ) → Clear base (bytes_of (scope_for k.usage)) i n → bytes_at (applied base b (count_of b) s) i n ≡ bytes_at s i n
  beside s i n c =
      part_ext (applied base b (count_of b) s) s i n (length_applied base b s (count_of b))
      (λ j m. applied_frame (count_of b) (i + j) s (omega arith) (λ w. off j m c (named_within (count_of b) (i + j) (omega arith) w)))
    where
      off : (j : ℕ) → j < n → Clear base (bytes_of (scope_for k.usage)) i n → (base ≤ i + j) × (i + j < base + bytes_of (scope_for k.usage)) → ⊥
      off j m (left q) w = omega (arith, w.1)
      off j m (right q) w = omega (arith, w.0)

-- ---- the values filled in
module _ (base : ℕ) (s b : List ℕ) (ready : AllReady base b (length s)) where
  value_frame : (i j : ℕ) (c : List ℕ) → i < count_of b → (ValueByte b (suc i) j → ⊥) → (kind : Kind) → Moves kind base (size_at b (offset_at b i)) (length s)
      → get_or (fill_as kind base s (offset_at b i) c) j 0 ≡ get_or c j 0
  unfolding fill_as
  value_frame i j c l out Unlisted m = refl
  value_frame i j c l out Nop m = refl
  value_frame i j c l out (Listed x) m = apart (dec_lt j (offset_at b i + 4)) (dec_lt j (next_at b (offset_at b i)))
    where
      long : length (read_from x.source base x.size s) ≡ size_at b (offset_at b i)
      long = ap (λ (z : ℕ). length (read_from x.source base z s)) (sym m.0) ∙ length_read x.source base (size_at b (offset_at b i)) s m.1

      apart : Dec (j < offset_at b i + 4) → Dec (j < next_at b (offset_at b i)) → get_or (put c (offset_at b i + 4) (read_from x.source base x.size s)) j 0 ≡ get_or c j 0
      apart (yes h) w = get_or_put_other c (offset_at b i + 4) (read_from x.source base x.size s) j (right (omega arith))
      apart (no h) (no w) = get_or_put_other c (offset_at b i + 4) (read_from x.source base x.size s) j (left (omega (arith, long)))
      apart (no h) (yes w) = absurd (out (record { index = i; counted = omega arith; from = omega arith; below = w }))

  pub filled_frame : (n j : ℕ) → n ≤ count_of b → (ValueByte b n j → ⊥) → get_or (filled base s b n) j 0 ≡ get_or b j 0
  unfolding filled
  filled_frame zero j h out = refl
  filled_frame (suc n) j h out =
      value_frame n j (filled base s b n) (omega arith) out (kind_of (id_at b (offset_at b n))) (ready.each n (omega arith)).moves
      ∙ filled_frame n j (omega arith) (λ m. out (record { index = m.index; counted = omega (arith, m.counted); from = m.from; below = m.below }))
