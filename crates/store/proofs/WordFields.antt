-- The header's fields: what each says after one is written. Stated over a header h, of which the layout's size is known, and no
-- width is named. Assumes nothing.
use mathlib.Core.Path.{◌≡◌, refl, sym, ap, ap₂, ◌∙◌, subst}
use mathlib.Core.Logic.{◌≢◌, ◌⊎◌, inl, inr}
use mathlib.Core.Bool.{Bool, true, false, ◌&&◌}
use mathlib.Core.List.{List}
use Prim.Native.Nat.{ℕ, ◌+◌, ◌*◌, ◌%◌, ◌^◌, ◌≤◌, ◌<◌}
use native.Mathlib.Omega.{arith}
use native.Mathlib.Nat.{mod-eq_of_lt}
use native.Mathlib.Decide.{dec_lt}
use lib.Dec.{eqb, leb}
use lib.ListN.{length}
use borrow.Author.Tests.{le-leb, leb-true}
use Rattle.octets.specs.Bits.{bit, bits, put_bits}
use Rattle.octets.specs.Bytes.{Clear, left, right}
use Rattle.octets.proofs.Bytes.{clear_sym}
use Rattle.octets.proofs.Bits.{bits_put, bits_put_other, bit_put_other, length_put_bits, bits_one, bits_add, be_put_bits}
use Rattle.store.specs.declared.Layout.{Layout}
use Rattle.store.specs.Layout.{Sound}
use Rattle.store.specs.Header.{outside, offered, capabilities_of, live, word_at, word, is_taken, head_good}
use Rattle.store.specs.Store.{put_live, put_word}
use Rattle.store.proofs.Readings.{step}

-- 01, "The store": a slot word is used (1 bit), guest id (n bits), vCPU id (11 bits), most significant first
pub word_fields : (l : Layout) (h : List ℕ) (i n : ℕ) → l.width ≡ 1 + (n + 11)
    → word l h i ≡ bit h (word_at l i) * 2 ^ (n + 11) + (bits h (word_at l i + 1) n * 2048 + bits h (word_at l i + 1 + n) 11)
unfolding word
word_fields l h i n e =
    ap (bits h (word_at l i)) e ∙ bits_add h (word_at l i) 1 (n + 11)
    ∙ ap₂ (λ (x y : ℕ). x * 2 ^ (n + 11) + y) (bits_one h (word_at l i)) (bits_add h (word_at l i + 1) n 11)

-- a mark and a slot word have no bit in common
pub mark_clear : (l : Layout) → Sound l → (j a : ℕ) → j < l.slots → a < l.slots → Clear (8 * l.taken_at + j) 1 (word_at l a) l.width
mark_clear l so j a hj la = go so.marks_apart
  where
    go : (8 * l.taken_at + l.slots ≤ 8 * l.words_at) ⊎ (8 * l.words_at + l.width * l.slots ≤ 8 * l.taken_at)
        → Clear (8 * l.taken_at + j) 1 (word_at l a) l.width
    go (inl p) = left (omega arith)
    go (inr p) = right (omega (arith, step l.width a l.slots la))

module _ (l : Layout) (so : Sound l) (h : List ℕ) (full : length h ≡ l.guests_at) where
  word_room : (i : ℕ) → i < l.slots → word_at l i + l.width ≤ 8 * length h
  word_room i k = omega (arith, step l.width i l.slots k, so.words, full)

  apart : (i a : ℕ) → a ≢ i → Clear (word_at l i) l.width (word_at l a) l.width
  apart i a n = go (dec_lt a i)
    where
      go : Dec (a < i) → Clear (word_at l i) l.width (word_at l a) l.width
      go (yes k) = right (omega (arith, step l.width a i k))
      go (no k) = let m : i < a = omega arith in left (omega (arith, step l.width i a m))

  -- ---- a slot word written
  module _ (j : ℕ) (hj : j < l.slots) (w : ℕ) where
    pub length_word : length (put_word l h j w) ≡ length h
    unfolding put_word
    length_word = length_put_bits h (word_at l j) l.width w

    pub word_same : w < 4096 * l.ids → word l (put_word l h j w) j ≡ w
    unfolding word put_word
    word_same hw = bits_put h (word_at l j) l.width w (word_room j hj) ∙ mod-eq_of_lt (subst (λ (m : ℕ). w < m) (sym so.digits) hw)

    pub word_other : (a : ℕ) → a ≢ j → word l (put_word l h j w) a ≡ word l h a
    unfolding word put_word
    word_other a n = bits_put_other h (word_at l j) l.width w (word_at l a) l.width (apart j a n)

    pub live_same : (g : ℕ) → live l (put_word l h j w) g ≡ live l h g
    unfolding live put_word
    live_same g = go (leb g l.guests) refl
      where
        go : (b : Bool) → leb g l.guests ≡ b
            → ((leb 1 g && b) && eqb (bit (put_bits h (word_at l j) l.width w) (63 + g)) 1) ≡ ((leb 1 g && b) && eqb (bit h (63 + g)) 1)
        go false e = two (leb 1 g)
          where
            two : (t : Bool) → ((t && false) && eqb (bit (put_bits h (word_at l j) l.width w) (63 + g)) 1) ≡ ((t && false) && eqb (bit h (63 + g)) 1)
            two true = refl
            two false = refl
        go true e =
            ap (λ (x : ℕ). (leb 1 g && true) && eqb x 1)
            (bit_put_other h (word_at l j) l.width w (63 + g) (right (omega (arith, leb-true g l.guests e, so.head, so.some_zeros))))

    pub taken_same : (a : ℕ) → a < l.slots → is_taken l (put_word l h j w) a ≡ is_taken l h a
    unfolding is_taken put_word
    taken_same a la = ap (λ (x : ℕ). eqb x 1) (bit_put_other h (word_at l j) l.width w (8 * l.taken_at + a) (clear_sym (mark_clear l so a j la hj)))

    pub caps_same : capabilities_of (put_word l h j w) ≡ capabilities_of h
    unfolding capabilities_of put_word
    caps_same = be_put_bits h (word_at l j) l.width w 0 8 (right (omega (arith, so.head)))

    pub head_same : head_good l (put_word l h j w) ≡ head_good l h
    unfolding head_good capabilities_of put_word
    head_same =
        ap₂ (λ (x y : ℕ). eqb (outside offered x) 0 && eqb y 0)
        (be_put_bits h (word_at l j) l.width w 0 8 (right (omega (arith, so.head))))
        (bits_put_other h (word_at l j) l.width w (64 + l.guests) l.zeros (right (omega (arith, so.head))))

  -- ---- a live bit written
  module _ (g : ℕ) (lo : 1 ≤ g) (hi : g ≤ l.guests) (b : ℕ) where
    pub length_live : length (put_live h g b) ≡ length h
    unfolding put_live
    length_live = length_put_bits h (63 + g) 1 b

    pub word_live : (a : ℕ) → word l (put_live h g b) a ≡ word l h a
    unfolding word put_live
    word_live a = bits_put_other h (63 + g) 1 b (word_at l a) l.width (left (omega (arith, so.head)))

    pub taken_live : (a : ℕ) → is_taken l (put_live h g b) a ≡ is_taken l h a
    unfolding is_taken put_live
    taken_live a = ap (λ (x : ℕ). eqb x 1) (bit_put_other h (63 + g) 1 b (8 * l.taken_at + a) (left (omega (arith, so.marks_head))))

    pub head_live : head_good l (put_live h g b) ≡ head_good l h
    unfolding head_good capabilities_of put_live
    head_live =
        ap₂ (λ (x y : ℕ). eqb (outside offered x) 0 && eqb y 0)
        (be_put_bits h (63 + g) 1 b 0 8 (right (omega arith))) (bits_put_other h (63 + g) 1 b (64 + l.guests) l.zeros (left (omega arith)))

    pub live_here : live l (put_live h g b) g ≡ eqb (b % 2) 1
    unfolding live put_live
    live_here =
        let k : 63 + g + 1 ≤ 8 * length h = omega (arith, full, so.head, so.words) in
        simp (le-leb _ _ lo, le-leb _ _ hi) (ap (λ (x : ℕ). eqb x 1) (sym (bits_one (put_bits h (63 + g) 1 b) (63 + g)) ∙ bits_put h (63 + g) 1 b k))

    pub live_else : (k : ℕ) → k ≢ g → live l (put_live h g b) k ≡ live l h k
    unfolding live put_live
    live_else k n = ap (λ (x : ℕ). (leb 1 k && leb k l.guests) && eqb x 1) (bit_put_other h (63 + g) 1 b (63 + k) (clear (dec_lt g k)))
      where
        clear : Dec (g < k) → Clear (63 + g) 1 (63 + k) 1
        clear (yes m) = left (omega arith)
        clear (no m) = right (omega arith)
