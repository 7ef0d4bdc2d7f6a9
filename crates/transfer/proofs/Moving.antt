-- The laws of one element's value moved, and of the loop that stores. Nothing else opens `put_from`, `put_as`, `read_from`, `fill_as` and
-- `applied`. Assumes nothing.
use mathlib.Core.Path.{◌≡◌, refl, sym, ap, ap₂, ◌∙◌, subst}
use mathlib.Core.List.{List}
use Prim.Native.Nat.{ℕ, zero, suc, ◌+◌, ◌≤◌, ◌<◌}
use native.Mathlib.Numerals.{add-one}
use native.Mathlib.Omega.{arith}
use lib.ListN.{length}
use Rattle.octets.specs.Bytes.{bytes_at, put, be, digits}
use Rattle.octets.proofs.Bytes.{length_put, length_bytes_at, copy_part}
use Rattle.octets.proofs.Numbers.{length_digits}
use Rattle.elements.specs.declared.Access.{Access}
use Rattle.elements.specs.declared.Scope.TheVariants.{Thread}
use Rattle.elements.specs.declared.Source.{Source}
use Rattle.elements.specs.declared.Source.TheVariants.{Fixed, Stored}
use Rattle.elements.specs.declared.Entry.{Entry}
use Rattle.elements.specs.declared.Kind.{Kind}
use Rattle.elements.specs.declared.Kind.TheVariants.{Unlisted, Nop, Listed}
use Rattle.elements.specs.Table.{kind_of}
use Rattle.elements.specs.Private.{thread_kind}
use Rattle.gsb.specs.Walk.{count_of, id_at, size_at, next_at, offset_at}
use Rattle.gsb.proofs.Judged.{empty_parts, nop}
use Rattle.gsb.proofs.Walks.{offset_next}
use Rattle.answer.specs.declared.Place.{Place}
use Rattle.std.proofs.Common.{Option, None, Some}
use Rattle.transfer.specs.Private.{Stepped, Onward}
use Rattle.transfer.specs.Transfer.{value_at, put_from, put_as, applied, read_from, fill_as, Fits, Moves, Ready, AllReady}

abbrev entry : ℕ → Access → ℕ → Entry
entry n a p = record { size = n; access = a; scope = Thread; source = Stored p }

-- ---- by the source
module _ (source : Source) (base size len : ℕ) where
  pub fits_stored : (p : ℕ) → Fits source base size len → source ≡ Stored p → base + p + size ≤ len
  fits_stored p f e = subst (λ (x : Source). Fits x base size len) e f

  pub fits_fixed : (n : ℕ) → Fits source base size len → source ≡ Fixed n → size ≡ 8
  fits_fixed n f e = subst (λ (x : Source). Fits x base size len) e f

module _ (source : Source) (base : ℕ) (v s : List ℕ) where
  pub put_other : ((p : ℕ) → source ≡ Stored p → ⊥) → s ≡ put_from source base v s
  unfolding put_from
  put_other = go source
    where
      go : (x : Source) → ((p : ℕ) → x ≡ Stored p → ⊥) → s ≡ put_from x base v s
      go (Fixed n) h = refl
      go (Stored p) h = absurd (h p refl)

  pub put_stored : (p : ℕ) (t : List ℕ) → source ≡ Stored p → t ≡ put s (base + p) v → t ≡ put_from source base v s
  unfolding put_from
  put_stored p t e h = h ∙ sym (ap (λ (x : Source). put_from x base v s) e)

module _ (source : Source) (base size : ℕ) (s b : List ℕ) (to : ℕ) (t : List ℕ) where
  pub fill_fixed : (n : ℕ) → source ≡ Fixed n → t ≡ put b to (digits 8 n) → t ≡ put b to (read_from source base size s)
  unfolding read_from
  fill_fixed n e h = h ∙ sym (ap (λ (x : Source). put b to (read_from x base size s)) e)

  pub fill_stored : (p : ℕ) → source ≡ Stored p → t ≡ put b to (bytes_at s (base + p) size) → t ≡ put b to (read_from source base size s)
  unfolding read_from
  fill_stored p e h = h ∙ sym (ap (λ (x : Source). put b to (read_from x base size s)) e)

pub length_read : (source : Source) (base size : ℕ) (s : List ℕ) → Fits source base size (length s) → length (read_from source base size s) ≡ size
unfolding read_from
length_read (Fixed n) base size s f = length_digits 8 n ∙ sym f
length_read (Stored p) base size s f = length_bytes_at s (base + p) size f

-- ---- by the kind
module _ (kind : Kind) (base size len : ℕ) (x : Entry) (m : Moves kind base size len) (e : kind ≡ Listed x) where
  moves_both : (size ≡ x.size) × Fits x.source base size len
  moves_both = subst (λ (k : Kind). Moves k base size len) e m

  pub moves_size : size ≡ x.size
  moves_size = moves_both.0

  pub moves_fits : Fits x.source base size len
  moves_fits = moves_both.1

  -- the same by the listed size
  pub listed_fits : Fits x.source base x.size len
  listed_fits = subst (λ (n : ℕ). Fits x.source base n len) moves_size moves_fits

  pub listed_inside : (at end : ℕ) → at + size ≤ end → at + x.size ≤ end
  listed_inside at end h = omega (arith, moves_size)

-- a value of 24 bytes in two pieces
pub value_two : (d x y b : List ℕ) (to from size : ℕ) → x ≡ put d to (bytes_at b from 16) → y ≡ put x (to + 16) (bytes_at b (from + 16) 8) → size ≡ 24 → from + size ≤ length b
    → y ≡ put d to (bytes_at b from size)
value_two d x y b to from size p q e h =
    copy_part d to b from x 16 y 8 p (omega arith) q ∙ ap (λ (n : ℕ). put d to (bytes_at b from n)) (sym e)

module _ (kind : Kind) (base : ℕ) (v s : List ℕ) where
  pub as_other : ((x : Entry) → kind ≡ Listed x → ⊥) → s ≡ put_as kind base v s
  unfolding put_as
  as_other = go kind
    where
      go : (k : Kind) → ((x : Entry) → k ≡ Listed x → ⊥) → s ≡ put_as k base v s
      go Unlisted h = refl
      go Nop h = refl
      go (Listed x) h = absurd (h x refl)

  pub as_nop : kind ≡ Nop → s ≡ put_as kind base v s
  unfolding put_as
  as_nop e = sym (ap (λ (k : Kind). put_as k base v s) e)

  pub as_listed : (x : Entry) (t : List ℕ) → kind ≡ Listed x → t ≡ put_from x.source base v s → t ≡ put_as kind base v s
  unfolding put_as
  as_listed x t e h = h ∙ sym (ap (λ (k : Kind). put_as k base v s) e)

module _ (kind : Kind) (base : ℕ) (s : List ℕ) (at : ℕ) (b : List ℕ) where
  pub fill_other : ((x : Entry) → kind ≡ Listed x → ⊥) → b ≡ fill_as kind base s at b
  unfolding fill_as
  fill_other = go kind
    where
      go : (k : Kind) → ((x : Entry) → k ≡ Listed x → ⊥) → b ≡ fill_as k base s at b
      go Unlisted h = refl
      go Nop h = refl
      go (Listed x) h = absurd (h x refl)

  pub fill_nop : kind ≡ Nop → b ≡ fill_as kind base s at b
  unfolding fill_as
  fill_nop e = sym (ap (λ (k : Kind). fill_as k base s at b) e)

  pub fill_entry : (x : Entry) → kind ≡ Listed x → fill_as kind base s at b ≡ put b (at + 4) (read_from x.source base x.size s)
  unfolding fill_as
  fill_entry x e = ap (λ (k : Kind). fill_as k base s at b) e

  -- by the listed size
  pub fill_as_lem : (x : Entry) (t : List ℕ) → kind ≡ Listed x → t ≡ put b (at + 4) (read_from x.source base x.size s) → t ≡ fill_as kind base s at b
  unfolding fill_as
  fill_as_lem x t e h = h ∙ sym (ap (λ (k : Kind). fill_as k base s at b) e)

  pub fill_listed : (x : Entry) (size len : ℕ) (t : List ℕ) → Moves kind base size len → kind ≡ Listed x → t ≡ put b (at + 4) (read_from x.source base size s) → t ≡ fill_as kind base s at b
  unfolding fill_as
  fill_listed x size len t m e h =
      fill_as_lem x t e (h ∙ ap (λ (n : ℕ). put b (at + 4) (read_from x.source base n s)) (moves_size kind base size len x m e))

pub length_put_as : (kind : Kind) (base : ℕ) (v s : List ℕ) → length (put_as kind base v s) ≡ length s
unfolding put_as put_from
length_put_as Unlisted base v s = refl
length_put_as Nop base v s = refl
length_put_as (Listed x) base v s = go x.source
  where
    go : (y : Source) → length (put_from y base v s) ≡ length s
    go (Fixed n) = refl
    go (Stored p) = length_put s (base + p) v

pub length_fill_as : (kind : Kind) (base : ℕ) (s : List ℕ) (at : ℕ) (b : List ℕ) → length (fill_as kind base s at b) ≡ length b
unfolding fill_as
length_fill_as Unlisted base s at b = refl
length_fill_as Nop base s at b = refl
length_fill_as (Listed x) base s at b = length_put b (at + 4) (read_from x.source base x.size s)

-- ---- one element, by what was read of it
module _ (b : List ℕ) (at w : ℕ) (e : w ≡ be b at 4) (z : w ≡ 0) where
  pub empty_next : at + 4 ≡ next_at b at
  empty_next = let p = empty_parts b at w e z in omega (arith, p.1)

  pub empty_stored : (base : ℕ) (v s : List ℕ) → s ≡ put_as (kind_of (id_at b at)) base v s
  empty_stored base v s = as_nop (kind_of (id_at b at)) base v s (ap kind_of (empty_parts b at w e z).0 ∙ nop)

  pub empty_filled : (base : ℕ) (s : List ℕ) → b ≡ fill_as (kind_of (id_at b at)) base s at b
  empty_filled base s = fill_nop (kind_of (id_at b at)) base s at b (ap kind_of (empty_parts b at w e z).0 ∙ nop)

module _ (b : List ℕ) (at base len size id : ℕ) (kind : Kind) (i : id ≡ id_at b at) (t : kind ≡ kind_of id) (z : size ≡ size_at b at) (r : Ready base b at len) where
  pub ready_moves : Moves kind base size len
  ready_moves = subst (λ (k : Kind). Moves k base size len) (sym (t ∙ ap kind_of i)) (subst (λ (n : ℕ). Moves (kind_of (id_at b at)) base n len) (sym z) r.moves)

  pub ready_inside : at + 4 + size ≤ length b
  ready_inside = omega (arith, r.inside, z)

  pub stored_element : (s u : List ℕ) → u ≡ put_as kind base (bytes_at b (at + 4) size) s → u ≡ put_as (kind_of (id_at b at)) base (value_at b at) s
  stored_element s u h = h ∙ ap₂ (λ (k : Kind) (n : ℕ). put_as k base (bytes_at b (at + 4) n) s) (t ∙ ap kind_of i) z

  pub filled_element : (s u : List ℕ) → u ≡ fill_as kind base s at b → u ≡ fill_as (kind_of (id_at b at)) base s at b
  filled_element s u h = h ∙ ap (λ (k : Kind). fill_as k base s at b) (t ∙ ap kind_of i)

-- ---- a register, by the range that its ID is in: its kind k is known, and so are its size and its place
module _ (b : List ℕ) (at base len id : ℕ) (i : id ≡ id_at b at) (r : Ready base b at len) (n p : ℕ) (a : Access)
    (e : thread_kind n a p ≡ kind_of id) where
  known : kind_of (id_at b at) ≡ thread_kind n a p
  known = ap kind_of (sym i) ∙ sym e

  known_size : size_at b at ≡ n
  known_size = moves_size (kind_of (id_at b at)) base (size_at b at) len (entry n a p) r.moves known

  pub register_fits : (base + p + n ≤ len) × (at + 4 + n ≤ length b) × (at + 4 + n ≡ next_at b at)
  register_fits =
      let s : size_at b at ≡ n = known_size in
      let f : base + p + size_at b at ≤ len = moves_fits (kind_of (id_at b at)) base (size_at b at) len (entry n a p) r.moves known in
      (omega arith, omega (arith, r.inside), omega arith)

  pub register_stored : (s u : List ℕ) → u ≡ put s (base + p) (bytes_at b (at + 4) n) → u ≡ put_as (kind_of (id_at b at)) base (value_at b at) s
  register_stored s u h =
      as_listed (kind_of (id_at b at)) base (value_at b at) s (entry n a p) u known
      (put_stored (Stored p) base (value_at b at) s p u refl
      (h ∙ ap (λ (m : ℕ). put s (base + p) (bytes_at b (at + 4) m)) (sym known_size)))

  pub register_filled : (s u : List ℕ) → u ≡ put b (at + 4) (bytes_at s (base + p) n) → u ≡ fill_as (kind_of (id_at b at)) base s at b
  register_filled s u h =
      fill_listed (kind_of (id_at b at)) base s at b (entry n a p) (size_at b at) len u r.moves known
      (fill_stored (Stored p) base (size_at b at) s b (at + 4) u p refl
      (h ∙ ap (λ (m : ℕ). put b (at + 4) (bytes_at s (base + p) m)) (sym known_size)))

-- ---- the loop that stores
pub ready_at : (base : ℕ) (b : List ℕ) (len count i at m : ℕ) → AllReady base b len → count ≡ count_of b → i < count → at ≡ offset_at b i → m ≡ len → Ready base b at m
ready_at base b len count i at m a c h e q = subst (λ (x : ℕ). Ready base b x m) (sym e) (subst (Ready base b (offset_at b i)) (sym q) (a.each i (omega arith)))

module _ (base : ℕ) (b s : List ℕ) where
  pub apply_start : s ≡ applied base b 0 s
  unfolding applied
  apply_start = refl

  pub apply_more : (n : ℕ) → applied base b (suc n) s ≡ put_as (kind_of (id_at b (offset_at b n))) base (value_at b (offset_at b n)) (applied base b n s)
  unfolding applied
  apply_more n = refl

  pub apply_turn : (i at : ℕ) (t u : List ℕ) → t ≡ applied base b i s → at ≡ offset_at b i → u ≡ put_as (kind_of (id_at b at)) base (value_at b at) t → u ≡ applied base b (i + 1) s
  unfolding applied
  apply_turn i at t u e o h =
      h ∙ ap₂ (λ (a : ℕ) (x : List ℕ). put_as (kind_of (id_at b a)) base (value_at b a) x) o e ∙ ap (λ (n : ℕ). applied base b n s) (sym (add-one i))

  pub apply_end : (i count : ℕ) (t : List ℕ) → t ≡ applied base b i s → count ≡ count_of b → i ≤ count → count ≤ i → t ≡ applied base b (count_of b) s
  apply_end i count t e c h k = let q : i ≡ count_of b = omega arith in e ∙ ap (λ (n : ℕ). applied base b n s) q

  pub length_applied : (n : ℕ) → length (applied base b n s) ≡ length s
  unfolding applied
  length_applied zero = refl
  length_applied (suc n) = length_put_as (kind_of (id_at b (offset_at b n))) base (value_at b (offset_at b n)) (applied base b n s) ∙ length_applied n

-- where the next element starts, by what was returned
pub next_turn : (b : List ℕ) (i at r : ℕ) → at ≡ offset_at b i → r ≡ next_at b at → r ≡ offset_at b (i + 1)
next_turn b i at r e h = h ∙ offset_next b i at e

-- ---- the turns of `store_registers`, from the store s on
pub other_same : (base : ℕ) (b : List ℕ) (at : ℕ) (v : Option ℕ) (t w : List ℕ) → Stepped v base b at t w → v ≡ None → w ≡ t
other_same base b at v t w h e = subst (λ (x : Option ℕ). Stepped x base b at t w) e h

module _ (base : ℕ) (b : List ℕ) (count : ℕ) (from : Place) (s : List ℕ) where
  -- where s has the elements before the first place, t has those before i
  abbrev pub Since : ℕ → List ℕ → Type 0
  Since i t = (u : List ℕ) → s ≡ applied base b from.index u → t ≡ applied base b i u

  step_of : (at next : ℕ) (v : Option ℕ) (t w : List ℕ) → Stepped v base b at t w → v ≡ Some next → Stepped (Some next) base b at t w
  step_of at next v t w h e = subst (λ (x : Option ℕ). Stepped x base b at t w) e h

  pub since_next : (i at next : ℕ) (v : Option ℕ) (t w : List ℕ) → Since i t → at ≡ offset_at b i → Stepped v base b at t w → v ≡ Some next → Since (i + 1) w
  since_next i at next v t w f o h e u g = apply_turn base b u i at t w (f u g) o (step_of at next v t w h e).1

  pub since_place : (i at next : ℕ) (v : Option ℕ) (t w : List ℕ) → at ≡ offset_at b i → Stepped v base b at t w → v ≡ Some next → next ≡ offset_at b (i + 1)
  since_place i at next v t w o h e = next_turn b i at next o (step_of at next v t w h e).0

  pub since_length : (at next : ℕ) (v : Option ℕ) (t w : List ℕ) → Stepped v base b at t w → v ≡ Some next → length t ≡ length s → length w ≡ length s
  since_length at next v t w h e l =
      ap length (step_of at next v t w h e).1 ∙ length_put_as (kind_of (id_at b at)) base (value_at b at) t ∙ l

  pub moved_on : (i at : ℕ) (t w : List ℕ) → from.index ≤ i → i ≤ count → at ≡ offset_at b i → Since i t → w ≡ t
      → Onward base b count from (record { index = i; offset = at }) s w
  moved_on i at t w o h p f e = record { onward = o; upto = h; place = p; stored = λ u g. e ∙ f u g }

-- ---- the turns of `apply`, each after registers
module _ (base : ℕ) (b : List ℕ) (count : ℕ) (from to : Place) (s t u : List ℕ) (o : Onward base b count from to t u) (e : t ≡ applied base b from.index s) where
  pub onward_end : count ≡ count_of b → count ≤ to.index → u ≡ applied base b (count_of b) s
  onward_end c h = apply_end base b s to.index count u (o.stored s e) c o.upto h

  pub onward_turn : (v : List ℕ) → v ≡ put_as (kind_of (id_at b to.offset)) base (value_at b to.offset) u → v ≡ applied base b (to.index + 1) s
  onward_turn v h = apply_turn base b s to.index to.offset u v (o.stored s e) o.place h

pub onward_place : (base : ℕ) (b : List ℕ) (count : ℕ) (from to : Place) (t u : List ℕ) (r : ℕ) → Onward base b count from to t u → r ≡ next_at b to.offset
    → r ≡ offset_at b (to.index + 1)
onward_place base b count from to t u r o h = next_turn b to.index to.offset r o.place h

-- a store of the same length has room for the same elements
pub ready_all : (base : ℕ) (b : List ℕ) (len m : ℕ) → AllReady base b len → m ≡ len → AllReady base b m
ready_all base b len m a e = subst (AllReady base b) (sym e) a

pub ready_onward : (base : ℕ) (b : List ℕ) (len count : ℕ) (from to : Place) (t u : List ℕ) (m : ℕ) → AllReady base b len → count ≡ count_of b → to.index < count
    → Onward base b count from to t u → m ≡ len → Ready base b to.offset m
ready_onward base b len count from to t u m a c h o e = ready_at base b len count to.index to.offset m a c h o.place e
