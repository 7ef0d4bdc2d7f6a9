-- The conversion, in the form of the code's needs. Assumes nothing.
use mathlib.Core.Path.{◌≡◌, refl, sym, ap, ap₂, ◌∙◌}
use mathlib.Core.Bool.{true, cond}
use mathlib.Core.List.{List}
use Prim.Native.Nat.{ℕ, suc, ◌+◌, ◌-◌, ◌*◌, ◌/◌, ◌^◌, ◌≤◌, ◌<◌}
use native.Mathlib.Omega.{arith}
use native.Mathlib.Numerals.{add-one}
use lib.ListN.{length}
use borrow.Author.Tests.{le-leb, lt-leb}
use Rattle.octets.specs.Bytes.{bytes_at, put, zeros}
use Rattle.octets.proofs.Bytes.{length_zeros, put_all}
use Rattle.store.specs.declared.Layout.{Layout}
use Rattle.store.specs.Layout.{Sound, guest_bytes, slot_bytes}
use Rattle.store.specs.Header.{header, live, word, is_used, guest_of, is_taken}
use Rattle.store.specs.Store.{well_formed, fresh, put_live, put_word, put_taken}
use Rattle.store.specs.Conversion.{Within, recoded, copied_lives, copied_marks, copied_words, copied_header, converted}
use Rattle.store.proofs.Frame.{formed}
use Rattle.store.proofs.Recoded.{word_guest}

-- ---- a word
module _ (l m : Layout) (w : ℕ) where
  pub recode_none : w < l.ids * 2048 → 0 ≡ recoded l m w
  unfolding recoded is_used
  recode_none h = sym (simp (lt-leb _ _ h))

  pub recode_some : l.ids * 2048 ≤ w → w - l.ids * 2048 + m.ids * 2048 ≡ recoded l m w
  unfolding recoded is_used
  recode_some h = sym (simp (le-leb _ _ h))

  module _ (so : Sound l) (so' : Sound m) (within : Within l m) (named : guest_of l w ≤ l.guests) where
    pub recode_small : l.ids * 2048 ≤ w → w - l.ids * 2048 + m.ids * 2048 < 4096 * m.ids
    unfolding guest_of
    recode_small h = omega (arith, within.guests, so'.nameable)

    pub recode_room : l.ids * 2048 ≤ w → w - l.ids * 2048 + m.ids * 2048 < 2 ^ 64
    recode_room h = omega (arith, recode_small h, so'.few_ids)

pub some_ids : (m : Layout) → Sound m → 0 < 4096 * m.ids
some_ids m so = omega (arith, so.nameable)

-- ---- a guest and a slot of the target
-- ---- the source
pub formed_long : (l : Layout) (s : List ℕ) → well_formed l s ≡ true → length s ≡ l.size
formed_long l s good = (formed l s good).long

pub word_named : (l : Layout) (s : List ℕ) (a x : ℕ) → well_formed l s ≡ true → a < l.slots → x ≡ word l (header l s) a → guest_of l x ≤ l.guests
unfolding guest_of
word_named l s a x good k e = omega (arith, word_guest l s good a k, ap (λ (y : ℕ). y / 2048 - l.ids) e)

module _ (l : Layout) (so : Sound l) (s : List ℕ) (good : well_formed l s ≡ true) where
  pub caps_room : 0 + 8 ≤ length s
  caps_room = omega (arith, formed_long l s good, so.head, so.words, so.guests_fit, so.whole)

  pub guests_room : l.guests_at + guest_bytes * l.guests ≤ length s
  guests_room = omega (arith, formed_long l s good, so.guests_fit, so.whole)

  pub slots_room : l.slots_at + slot_bytes * l.slots ≤ length s
  slots_room = omega (arith, formed_long l s good, so.whole)

-- ---- room in the target
module _ (l m : Layout) (so : Sound m) (within : Within l m) (t : List ℕ) (long : length t ≡ m.size) where
  pub caps_fit : 0 + 8 ≤ length t
  caps_fit = omega (arith, so.head, so.words, so.guests_fit, so.whole)

  pub guests_fit : m.guests_at + guest_bytes * l.guests ≤ length t
  guests_fit = omega (arith, within.guests, so.guests_fit, so.whole)

  pub slots_fit : m.slots_at + slot_bytes * l.slots ≤ length t
  slots_fit = omega (arith, within.slots, so.whole)

-- ---- what is read, written
-- ---- the loops
module _ (l : Layout) (h t : List ℕ) where
  pub lives_none : t ≡ copied_lives l h 0 t
  unfolding copied_lives
  lives_none = refl

  pub lives_more : (g : ℕ) (u v : List ℕ) → 1 ≤ g → u ≡ copied_lives l h (g - 1) t → v ≡ put_live u g (cond (live l h g) 1 0) → v ≡ copied_lives l h (g + 1 - 1) t
  unfolding copied_lives
  lives_more g u v k e f =
      let n : g + 1 - 1 ≡ suc (g - 1) = omega arith in
      let m : g ≡ g - 1 + 1 = omega arith in
      f ∙ ap₂ (λ (x : List ℕ) (i : ℕ). put_live x i (cond (live l h i) 1 0)) e m ∙ ap (λ (i : ℕ). copied_lives l h i t) (sym n)

  pub lives_all : (g : ℕ) (u : List ℕ) → u ≡ copied_lives l h (g - 1) t → g ≤ l.guests + 1 → l.guests + 1 ≤ g → u ≡ copied_lives l h l.guests t
  lives_all g u e p q = let z : g - 1 ≡ l.guests = omega arith in e ∙ ap (λ (n : ℕ). copied_lives l h n t) z

module _ (l m : Layout) (h t : List ℕ) where
  pub marks_none : t ≡ copied_marks l m h 0 t
  unfolding copied_marks
  marks_none = refl

  pub marks_more : (a : ℕ) (u v : List ℕ) → u ≡ copied_marks l m h a t → v ≡ put_taken m u a (cond (is_taken l h a) 1 0) → v ≡ copied_marks l m h (a + 1) t
  unfolding copied_marks
  marks_more a u v e f = f ∙ ap (λ (x : List ℕ). put_taken m x a (cond (is_taken l h a) 1 0)) e ∙ ap (λ (n : ℕ). copied_marks l m h n t) (sym (add-one a))

  pub marks_all : (a : ℕ) (u : List ℕ) → u ≡ copied_marks l m h a t → a ≤ l.slots → l.slots ≤ a → u ≡ copied_marks l m h l.slots t
  marks_all a u e p q = let z : a ≡ l.slots = omega arith in e ∙ ap (λ (n : ℕ). copied_marks l m h n t) z

  pub words_none : t ≡ copied_words l m h 0 t
  unfolding copied_words
  words_none = refl

  pub words_more : (a : ℕ) (u v : List ℕ) → u ≡ copied_words l m h a t → v ≡ put_word m u a (recoded l m (word l h a)) → v ≡ copied_words l m h (a + 1) t
  unfolding copied_words
  words_more a u v e f = f ∙ ap (λ (x : List ℕ). put_word m x a (recoded l m (word l h a))) e ∙ ap (λ (n : ℕ). copied_words l m h n t) (sym (add-one a))

  pub words_all : (a : ℕ) (u : List ℕ) → u ≡ copied_words l m h a t → a ≤ l.slots → l.slots ≤ a → u ≡ copied_words l m h l.slots t
  words_all a u e p q = let z : a ≡ l.slots = omega arith in e ∙ ap (λ (n : ℕ). copied_words l m h n t) z

-- ---- the whole
module _ (l m : Layout) (s : List ℕ) where
  pub header_made : (t₀ t₁ t₂ t₃ t₄ t₅ : List ℕ) → length t₀ ≡ m.size → t₁ ≡ put t₀ 0 (zeros m.size) → t₂ ≡ put t₁ 0 (bytes_at s 0 8)
      → t₃ ≡ copied_lives l (header l s) l.guests t₂ → t₄ ≡ copied_marks l m (header l s) l.slots t₃ → t₅ ≡ copied_words l m (header l s) l.slots t₄
      → t₅ ≡ copied_header l m s
  unfolding copied_header fresh
  header_made t₀ t₁ t₂ t₃ t₄ t₅ n a b c d e =
      e ∙ ap (copied_words l m (header l s) l.slots)
      (d ∙ ap (copied_marks l m (header l s) l.slots)
      (c ∙ ap (copied_lives l (header l s) l.guests)
      (b ∙ ap (λ (x : List ℕ). put x 0 (bytes_at s 0 8)) (a ∙ put_all t₀ (zeros m.size) (length_zeros m.size ∙ sym n)))))

  pub converted_made : (t u v : List ℕ) → t ≡ copied_header l m s → u ≡ put t m.guests_at (bytes_at s l.guests_at (guest_bytes * l.guests))
      → v ≡ put u m.slots_at (bytes_at s l.slots_at (slot_bytes * l.slots)) → v ≡ converted l m s
  unfolding converted
  converted_made t u v e f g =
      g ∙ ap (λ (x : List ℕ). put x m.slots_at (bytes_at s l.slots_at (slot_bytes * l.slots)))
      (f ∙ ap (λ (x : List ℕ). put x m.guests_at (bytes_at s l.guests_at (guest_bytes * l.guests))) e)
