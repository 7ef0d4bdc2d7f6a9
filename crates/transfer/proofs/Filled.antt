-- The laws of the loop that fills a buffer in: it writes below the element that it comes to, so what it reads of that element and of
-- those after it is as it was. Nothing else opens `filled`. Assumes nothing.
use mathlib.Core.Path.{◌≡◌, refl, sym, ap, ap₂, ◌∙◌, subst}
use mathlib.Core.List.{List}
use Prim.Native.Nat.{ℕ, zero, suc, ◌+◌, ◌≤◌, ◌<◌}
use native.Mathlib.Numerals.{add-one}
use native.Mathlib.Omega.{arith}
use lib.ListN.{length, get_or}
use Rattle.octets.specs.Bytes.{be, left}
use Rattle.octets.proofs.Bytes.{get_or_put_other}
use Rattle.octets.proofs.Numbers.{be_ext}
use Rattle.elements.specs.declared.Kind.{Kind}
use Rattle.elements.specs.declared.Kind.TheVariants.{Unlisted, Nop, Listed}
use Rattle.elements.specs.Table.{kind_of}
use Rattle.gsb.specs.Walk.{count_of, id_at, size_at, next_at, offset_at}
use Rattle.gsb.proofs.Walks.{offset_next}
use Rattle.transfer.specs.Transfer.{read_from, fill_as, filled, Moves, Ready, AllReady}
use Rattle.transfer.proofs.Moving.{length_read, length_fill_as}

-- a value filled in leaves the bytes after it
fill_after : (kind : Kind) (base : ℕ) (s : List ℕ) (at size : ℕ) (c : List ℕ) (k : ℕ) → Moves kind base size (length s) → at + 4 + size ≤ k → get_or (fill_as kind base s at c) k 0 ≡ get_or c k 0
unfolding fill_as
fill_after Unlisted base s at size c k m h = refl
fill_after Nop base s at size c k m h = refl
fill_after (Listed x) base s at size c k m h =
    let n : length (read_from x.source base x.size s) ≡ size = ap (λ (z : ℕ). length (read_from x.source base z s)) (sym m.0) ∙ length_read x.source base size s m.1 in
    get_or_put_other c (at + 4) (read_from x.source base x.size s) k (left (omega arith))

module _ (base : ℕ) (s b : List ℕ) (ready : AllReady base b (length s)) where
  pub length_filled : (i : ℕ) → length (filled base s b i) ≡ length b
  unfolding filled
  length_filled zero = refl
  length_filled (suc i) = length_fill_as (kind_of (id_at b (offset_at b i))) base s (offset_at b i) (filled base s b i) ∙ length_filled i

  pub filled_after : (i : ℕ) → i ≤ count_of b → (k : ℕ) → offset_at b i ≤ k → get_or (filled base s b i) k 0 ≡ get_or b k 0
  unfolding filled
  filled_after zero h k l = refl
  filled_after (suc i) h k l =
      let r = ready.each i (omega arith) in
      let n : next_at b (offset_at b i) ≡ offset_at b (suc i) = offset_next b i (offset_at b i) refl ∙ ap (offset_at b) (add-one i) in
      fill_after (kind_of (id_at b (offset_at b i))) base s (offset_at b i) (size_at b (offset_at b i)) (filled base s b i) k r.moves (omega arith)
      ∙ filled_after i (omega arith) k (omega arith)

  be_kept : (i : ℕ) → i ≤ count_of b → (o n : ℕ) → offset_at b i ≤ o → be (filled base s b i) o n ≡ be b o n
  be_kept i h o n l = be_ext (filled base s b i) b o n (λ k m. filled_after i h (o + k) (omega arith))

  -- the element that the loop comes to
  module _ (c : List ℕ) (i at count : ℕ) (e : c ≡ filled base s b i) (o : at ≡ offset_at b i) (n : count ≡ count_of b) (h : i < count) where
    id_kept : id_at c at ≡ id_at b (offset_at b i)
    id_kept = ap₂ (λ (x : List ℕ) (y : ℕ). id_at x y) e o ∙ be_kept i (omega arith) (offset_at b i) 2 (omega arith)

    size_kept : size_at c at ≡ size_at b (offset_at b i)
    size_kept = ap₂ (λ (x : List ℕ) (y : ℕ). size_at x y) e o ∙ be_kept i (omega arith) (offset_at b i + 2) 2 (omega arith)

    long : length c ≡ length b
    long = ap length e ∙ length_filled i

    pub fill_ready : Ready base c at (length s)
    fill_ready =
        let r = ready.each i (omega arith) in
        record {
          header = omega (arith, r.header, o, long);
          inside = omega (arith, r.inside, o, long, size_kept);
          moves = subst (λ (k : Kind). Moves k base (size_at c at) (length s)) (sym (ap kind_of id_kept)) (subst (λ (z : ℕ). Moves (kind_of (id_at b (offset_at b i))) base z (length s)) (sym size_kept) r.moves);
        }

    pub fill_next : (r : ℕ) → r ≡ next_at c at → r ≡ offset_at b (i + 1)
    fill_next r q = q ∙ ap₂ (λ (x y : ℕ). x + 4 + y) o size_kept ∙ offset_next b i (offset_at b i) refl

    pub fill_turn : (u : List ℕ) → u ≡ fill_as (kind_of (id_at c at)) base s at c → u ≡ filled base s b (i + 1)
    unfolding filled
    fill_turn u q =
        q ∙ ap (λ (k : Kind). fill_as k base s at c) (ap kind_of id_kept) ∙ ap₂ (λ (x : ℕ) (y : List ℕ). fill_as (kind_of (id_at b (offset_at b i))) base s x y) o e
        ∙ ap (filled base s b) (sym (add-one i))

-- one element more, whatever it is
pub filled_more : (base : ℕ) (s b : List ℕ) (i : ℕ) → filled base s b (i + 1) ≡ fill_as (kind_of (id_at b (offset_at b i))) base s (offset_at b i) (filled base s b i)
unfolding filled
filled_more base s b i = ap (filled base s b) (add-one i)

pub fill_start : (base : ℕ) (s b : List ℕ) → b ≡ filled base s b 0
unfolding filled
fill_start base s b = refl

pub fill_end : (base : ℕ) (s b c : List ℕ) (i count : ℕ) → c ≡ filled base s b i → count ≡ count_of b → i ≤ count → count ≤ i → c ≡ filled base s b (count_of b)
fill_end base s b c i count e n h k = let q : i ≡ count_of b = omega arith in e ∙ ap (filled base s b) q
