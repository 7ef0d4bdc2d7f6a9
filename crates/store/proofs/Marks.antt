-- A taken mark written, and a slot's word with its mark cleared: what each field of the header says afterwards. As in WordFields, over a
-- header h, and no width is named. Assumes nothing.
use mathlib.Core.Path.{◌≡◌, refl, sym, ap, ap₂, ◌∙◌}
use mathlib.Core.Logic.{◌≢◌}
use mathlib.Core.Bool.{Bool, true, false, not, ◌&&◌, cond}
use mathlib.Core.List.{List}
use Prim.Native.Nat.{ℕ, ◌+◌, ◌*◌, ◌%◌, ◌≤◌, ◌<◌}
use native.Mathlib.Omega.{arith}
use native.Mathlib.Decide.{dec_lt}
use lib.Dec.{eqb, leb, ltb}
use lib.ListN.{length}
use borrow.Author.Tests.{leb-true}
use Rattle.octets.specs.Bits.{bit, put_bits}
use Rattle.octets.specs.Bytes.{Clear, left, right}
use Rattle.octets.proofs.Bits.{bits_put, bits_put_other, bit_put_other, length_put_bits, bits_one, be_put_bits}
use Rattle.store.specs.declared.Layout.{Layout}
use Rattle.store.specs.Layout.{Sound}
use Rattle.store.specs.Header.{outside, offered, capabilities_of, live, word_at, word, word_of, is_taken, holds, lacks, head_good, slot_holding, slot_of, free_slot, is_dead, free_guest, any_live, used_slots}
use Rattle.store.specs.Store.{put_taken, put_slot}
use Rattle.store.proofs.Search.{every_ext, first_ext, tally_ext}
use Rattle.store.proofs.WordFields.{mark_clear, word_same, word_other, live_same, head_same, caps_same, taken_same}

module _ (l : Layout) (so : Sound l) (h : List ℕ) (full : length h ≡ l.guests_at) where
  -- ---- a mark written
  module _ (j : ℕ) (hj : j < l.slots) (b : ℕ) where
    pub length_mark : length (put_taken l h j b) ≡ length h
    unfolding put_taken
    length_mark = length_put_bits h (8 * l.taken_at + j) 1 b

    pub word_mark : (a : ℕ) → a < l.slots → word l (put_taken l h j b) a ≡ word l h a
    unfolding word put_taken
    word_mark a la = bits_put_other h (8 * l.taken_at + j) 1 b (word_at l a) l.width (mark_clear l so j a hj la)

    pub live_mark : (g : ℕ) → live l (put_taken l h j b) g ≡ live l h g
    unfolding live put_taken
    live_mark g = go (leb g l.guests) refl
      where
        go : (t : Bool) → leb g l.guests ≡ t
            → ((leb 1 g && t) && eqb (bit (put_bits h (8 * l.taken_at + j) 1 b) (63 + g)) 1) ≡ ((leb 1 g && t) && eqb (bit h (63 + g)) 1)
        go false e = two (leb 1 g)
          where
            two : (t : Bool) → ((t && false) && eqb (bit (put_bits h (8 * l.taken_at + j) 1 b) (63 + g)) 1) ≡ ((t && false) && eqb (bit h (63 + g)) 1)
            two true = refl
            two false = refl
        go true e =
            ap (λ (x : ℕ). (leb 1 g && true) && eqb x 1)
            (bit_put_other h (8 * l.taken_at + j) 1 b (63 + g) (right (omega (arith, leb-true g l.guests e, so.marks_head, so.some_zeros))))

    pub caps_mark : capabilities_of (put_taken l h j b) ≡ capabilities_of h
    unfolding capabilities_of put_taken
    caps_mark = be_put_bits h (8 * l.taken_at + j) 1 b 0 8 (right (omega (arith, so.marks_head)))

    pub head_mark : head_good l (put_taken l h j b) ≡ head_good l h
    unfolding head_good capabilities_of put_taken
    head_mark =
        ap₂ (λ (x y : ℕ). eqb (outside offered x) 0 && eqb y 0)
        (be_put_bits h (8 * l.taken_at + j) 1 b 0 8 (right (omega (arith, so.marks_head))))
        (bits_put_other h (8 * l.taken_at + j) 1 b (64 + l.guests) l.zeros (right (omega (arith, so.marks_head))))

    pub taken_here : is_taken l (put_taken l h j b) j ≡ eqb (b % 2) 1
    unfolding is_taken put_taken
    taken_here =
        let k : 8 * l.taken_at + j + 1 ≤ 8 * length h = omega (arith, full, so.marks) in
        ap (λ (x : ℕ). eqb x 1)
        (sym (bits_one (put_bits h (8 * l.taken_at + j) 1 b) (8 * l.taken_at + j)) ∙ bits_put h (8 * l.taken_at + j) 1 b k)

    pub taken_else : (a : ℕ) → a ≢ j → is_taken l (put_taken l h j b) a ≡ is_taken l h a
    unfolding is_taken put_taken
    taken_else a n = ap (λ (x : ℕ). eqb x 1) (bit_put_other h (8 * l.taken_at + j) 1 b (8 * l.taken_at + a) (clear (dec_lt j a)))
      where
        clear : Dec (j < a) → Clear (8 * l.taken_at + j) 1 (8 * l.taken_at + a) 1
        clear (yes m) = left (omega arith)
        clear (no m) = right (omega arith)

    -- so no search sees it
    pub holding_mark : (w : ℕ) → slot_holding l (put_taken l h j b) w ≡ slot_holding l h w
    unfolding slot_holding holds
    holding_mark w = first_ext (holds l (put_taken l h j b) w) (holds l h w) l.slots 0 (λ a i k. ap (λ (x : ℕ). eqb x w) (word_mark a (omega arith)))

    pub slot_of_mark : (g v : ℕ) → slot_of l (put_taken l h j b) g v ≡ slot_of l h g v
    unfolding slot_of
    slot_of_mark g v = ap₂ (λ (t : Bool) (x : ℕ). cond (t && ltb v 2048) x l.slots) (live_mark g) (holding_mark (word_of l g v))

    pub free_slot_mark : free_slot l (put_taken l h j b) ≡ free_slot l h
    unfolding free_slot
    free_slot_mark = holding_mark 0

    pub free_guest_mark : free_guest l (put_taken l h j b) ≡ free_guest l h
    unfolding free_guest is_dead
    free_guest_mark = first_ext (is_dead l (put_taken l h j b)) (is_dead l h) l.guests 1 (λ g i k. ap not (live_mark g))

    pub any_live_mark : any_live l (put_taken l h j b) ≡ any_live l h
    unfolding any_live is_dead
    any_live_mark = ap not (every_ext (is_dead l (put_taken l h j b)) (is_dead l h) l.guests 1 (λ g i k. ap not (live_mark g)))

    pub used_mark : used_slots l (put_taken l h j b) ≡ used_slots l h
    unfolding used_slots lacks
    used_mark = tally_ext (lacks l (put_taken l h j b) 0) (lacks l h 0) l.slots (λ a k. ap (λ (x : ℕ). not (eqb x 0)) (word_mark a k))

  -- ---- a slot's word written, its mark cleared
  module _ (j : ℕ) (hj : j < l.slots) (w : ℕ) where
    bare_full : length (put_taken l h j 0) ≡ l.guests_at
    bare_full = length_mark j hj 0 ∙ full

    pub word_slot : w < 4096 * l.ids → word l (put_slot l h j w) j ≡ w
    unfolding put_slot
    word_slot hw = word_same l so (put_taken l h j 0) bare_full j hj w hw

    pub word_slot_else : (a : ℕ) → a < l.slots → a ≢ j → word l (put_slot l h j w) a ≡ word l h a
    unfolding put_slot
    word_slot_else a la n = word_other l so (put_taken l h j 0) bare_full j hj w a n ∙ word_mark j hj 0 a la

    pub live_slot : (g : ℕ) → live l (put_slot l h j w) g ≡ live l h g
    unfolding put_slot
    live_slot g = live_same l so (put_taken l h j 0) bare_full j hj w g ∙ live_mark j hj 0 g

    pub caps_slot : capabilities_of (put_slot l h j w) ≡ capabilities_of h
    unfolding put_slot
    caps_slot = caps_same l so (put_taken l h j 0) bare_full j hj w ∙ caps_mark j hj 0

    pub head_slot : head_good l (put_slot l h j w) ≡ head_good l h
    unfolding put_slot
    head_slot = head_same l so (put_taken l h j 0) bare_full j hj w ∙ head_mark j hj 0

    pub taken_slot : is_taken l (put_slot l h j w) j ≡ false
    unfolding put_slot
    taken_slot = taken_same l so (put_taken l h j 0) bare_full j hj w j hj ∙ taken_here j hj 0

    pub taken_slot_else : (a : ℕ) → a < l.slots → a ≢ j → is_taken l (put_slot l h j w) a ≡ is_taken l h a
    unfolding put_slot
    taken_slot_else a la n = taken_same l so (put_taken l h j 0) bare_full j hj w a la ∙ taken_else j hj 0 a n
