-- What is computed for the two layouts: nothing else is. Assumes nothing.
use mathlib.Core.Path.{◌≡◌, refl, sym, ap, subst, ◌∙◌}
use mathlib.Core.Logic.{inl, inr}
use mathlib.Core.Bool.{Bool, true, false, cond}
use mathlib.Core.List.{List, [], ◌∷◌}
use Prim.Native.Nat.{ℕ, ◌*◌, ◌^◌, ◌≤◌, ◌<◌}
use native.Mathlib.Omega.{arith}
use lib.Dec.{eqb, lit<, lit≤}
use lib.ListN.{length}
use borrow.Author.Tests.{eq-eqb, ne_eqb}
use Rattle.std.specs.Prelude.{Option, unwrap_or, IfSome}
use Rattle.octets.specs.Bytes.{bytes_at, put, be, zeros}
use Rattle.octets.specs.Bits.{bit, bits}
use Rattle.store.specs.declared.Layout.{Layout}
use Rattle.store.specs.Layout.{Sound, small, large, layout_of}
use Rattle.store.specs.Search.{every}
use Rattle.store.specs.Header.{header, capabilities_of, live, slot_holding, word, is_used, guest_of, is_taken, lacks, alone, slot_good, head_good, words_good}
use Rattle.store.specs.Store.{well_formed, fresh}
use Rattle.store.specs.Conversion.{Within}

pub sound_small : Sound small
sound_small = record {
  few_slots = lit≤ tt;
  some_zeros = lit≤ tt;
  few_zeros = lit≤ tt;
  whole_bytes = refl;
  nameable = lit< tt;
  few_ids = lit≤ tt;
  digits = refl;
  head = lit≤ tt;
  words = lit≤ tt;
  guests_fit = lit≤ tt;
  whole = refl;
  small_size = lit≤ tt;
  marks_head = lit≤ tt;
  marks = lit≤ tt;
  marks_apart = inr (lit≤ tt);
  some_width = lit≤ tt;
  few_digits = lit≤ tt;
}

pub sound_large : Sound large
sound_large = record {
  few_slots = lit≤ tt;
  some_zeros = lit≤ tt;
  few_zeros = lit≤ tt;
  whole_bytes = refl;
  nameable = lit< tt;
  few_ids = lit≤ tt;
  digits = refl;
  head = lit≤ tt;
  words = lit≤ tt;
  guests_fit = lit≤ tt;
  whole = refl;
  small_size = lit≤ tt;
  marks_head = lit≤ tt;
  marks = lit≤ tt;
  marks_apart = inl (lit≤ tt);
  some_width = lit≤ tt;
  few_digits = lit≤ tt;
}

-- ---- a layout that was told by a store's length
sized : (b : Bool) → Sound (cond b large small)
sized true = sound_large
sized false = sound_small

-- for an entry point, which requires nothing
pub layout_sound : (s : List ℕ) → Sound (layout_of s)
unfolding layout_of
layout_sound s = sized (eqb (length s) large.size)

pub sized_sound : (l : Layout) (s : List ℕ) → l ≡ layout_of s → Sound l
sized_sound l s e = subst Sound (sym e) (layout_sound s)

few : (b : Bool) → (cond b large small).slots ≤ 16 → cond b large small ≡ small
few true h = absurd (omega arith)
few false h = refl

many : (b : Bool) → 16 < (cond b large small).slots → cond b large small ≡ large
many true h = refl
many false h = absurd (omega arith)

module _ (l : Layout) (s : List ℕ) (e : l ≡ layout_of s) where
  pub sized_small : l.slots ≤ 16 → l ≡ small
  unfolding layout_of
  sized_small h = e ∙ few (eqb (length s) large.size) (subst (λ (m : Layout). m.slots ≤ 16) e h)

  pub sized_large : 16 < l.slots → l ≡ large
  unfolding layout_of
  sized_large h = e ∙ many (eqb (length s) large.size) (subst (λ (m : Layout). 16 < m.slots) e h)

  module _ (r : Bool) where
    pub small_chosen : l.slots ≤ 16 → r ≡ well_formed small s → r ≡ well_formed l s
    small_chosen h q = q ∙ ap (λ (m : Layout). well_formed m s) (sym (sized_small h))

    pub large_chosen : 16 < l.slots → r ≡ well_formed large s → r ≡ well_formed l s
    large_chosen h q = q ∙ ap (λ (m : Layout). well_formed m s) (sym (sized_large h))

  -- a search that knows the size: in the layout m, which is the small one or the large one
  module _ (m : Layout) where
    pub small_held : (w : ℕ) (r : Option ℕ) → l.slots ≤ 16 → m ≡ small → unwrap_or r m.slots ≡ slot_holding m (header m s) w → unwrap_or r l.slots ≡ slot_holding l (header l s) w
    small_held w r h k q = subst (λ (x : Layout). unwrap_or r x.slots ≡ slot_holding x (header x s) w) (k ∙ sym (sized_small h)) q

    pub large_held : (w : ℕ) (r : Option ℕ) → 16 < l.slots → m ≡ large → unwrap_or r m.slots ≡ slot_holding m (header m s) w → unwrap_or r l.slots ≡ slot_holding l (header l s) w
    large_held w r h k q = subst (λ (x : Layout). unwrap_or r x.slots ≡ slot_holding x (header x s) w) (k ∙ sym (sized_large h)) q

    pub small_few : (r : Option ℕ) → l.slots ≤ 16 → m ≡ small → IfSome r (λ i. i < m.slots) → IfSome r (λ i. i < l.slots)
    small_few r h k q = subst (λ (x : Layout). IfSome r (λ i. i < x.slots)) (k ∙ sym (sized_small h)) q

    pub large_few : (r : Option ℕ) → 16 < l.slots → m ≡ large → IfSome r (λ i. i < m.slots) → IfSome r (λ i. i < l.slots)
    large_few r h k q = subst (λ (x : Layout). IfSome r (λ i. i < x.slots)) (k ∙ sym (sized_large h)) q

  module _ (m : Layout) where
    pub small_long : l.slots ≤ 16 → m ≡ small → (n : ℕ) → n ≡ l.size → n ≡ m.size
    small_long h k n q = q ∙ ap (λ (x : Layout). x.size) (sized_small h ∙ sym k)

    pub large_long : 16 < l.slots → m ≡ large → (n : ℕ) → n ≡ l.size → n ≡ m.size
    large_long h k n q = q ∙ ap (λ (x : Layout). x.size) (sized_large h ∙ sym k)

    pub small_word : l.slots ≤ 16 → (w : ℕ) → w < 4096 * l.ids → w < 2 ^ 16
    small_word h w q = omega (arith, ap (λ (x : Layout). x.ids) (sized_small h))

pub small_pair : (m : Layout) → m ≡ small → m.width ≡ 16
small_pair m k = ap (λ (x : Layout). x.width) k

-- what is known of the layout of a store holds of the one that was told
module _ (l m : Layout) (e : l ≡ m) where
  pub sized_size : (n : ℕ) → n ≡ m.size → n ≡ l.size
  sized_size n h = h ∙ ap (λ (x : Layout). x.size) (sym e)

  pub sized_guests : (g : ℕ) → g ≤ m.guests → g ≤ l.guests
  sized_guests g h = omega (arith, ap (λ (x : Layout). x.guests) e)

  pub sized_slots : (j : ℕ) → j < m.slots → j < l.slots
  sized_slots j h = omega (arith, ap (λ (x : Layout). x.slots) e)

-- a store of the small one's length is one of the small layout
pub small_told : (l : Layout) (s : List ℕ) → l ≡ small → length s ≡ l.size → l ≡ layout_of s
unfolding layout_of
small_told l s e h =
    let n : length s ≡ 119924 → ⊥ = λ z. let k : l.size ≡ 29580 = ap (λ (x : Layout). x.size) e in omega arith in
    e ∙ sym (simp (ne_eqb _ _ n))

-- `layout_of`
module _ (r : Layout) (s : List ℕ) where
  pub of_large : length s ≡ 119924 → r ≡ large → r ≡ layout_of s
  unfolding layout_of
  of_large h e = e ∙ sym (simp (eq-eqb _ _ h))

  pub of_small : (length s ≡ 119924 → ⊥) → r ≡ small → r ≡ layout_of s
  unfolding layout_of
  of_small h e = e ∙ sym (simp (ne_eqb _ _ h))

-- `small_formed` and `large_formed`
pub known_small : (l : Layout) → l ≡ small → Sound l
known_small l e = subst Sound (sym e) sound_small

pub known_large : (l : Layout) → l ≡ large → Sound l
known_large l e = subst Sound (sym e) sound_large

-- 02, L6: every guest and slot of a small store is one of a large one
pub small_within : Within small large
small_within = record { guests = lit≤ tt; slots = lit≤ tt }

module _ (l m : Layout) (e : l ≡ small) (f : m ≡ large) where
  pub known_within : Within l m
  known_within = subst (λ (x : Layout). Within x m) (sym e) (subst (Within small) (sym f) small_within)

-- 02, L1: "two bytes of taken marks after the slot words": slot 0's is the first bit of byte 42, the last slot's the last bit of byte 43
pub marks_placed : (is_taken small (header small (put (fresh small) 42 (0x80 ∷ 0x01 ∷ []))) 0 ≡ true) × (is_taken small (header small (put (fresh small) 42 (0x80 ∷ 0x01 ∷ []))) 1 ≡ false)
    × (is_taken small (header small (put (fresh small) 42 (0x80 ∷ 0x01 ∷ []))) 15 ≡ true)
unfolding fresh zeros put header bytes_at is_taken bit
marks_placed = (refl, refl, refl)

-- "a mark on an unused slot is ill formed"; of guest 1's vCPU 0 in slot 0 it is well formed
pub marks_formed : (well_formed small (put (fresh small) 42 (0x80 ∷ [])) ≡ false) × (well_formed small (put (put (fresh small) 8 (0x80 ∷ 0 ∷ 0x88 ∷ 0x00 ∷ [])) 42 (0x80 ∷ [])) ≡ true)
unfolding well_formed fresh zeros put header bytes_at head_good capabilities_of be words_good every slot_good is_used guest_of is_taken alone lacks live word bits bit
marks_formed = (refl, refl)
