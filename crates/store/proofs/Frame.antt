-- The header of a store after each write: a field is written in the header too, a value leaves it as it was. Assumes nothing.
use mathlib.Core.Path.{◌≡◌, ap, ◌∙◌}
use mathlib.Core.Bool.{true, ◌&&◌}
use mathlib.Core.List.{List}
use Prim.Native.Nat.{ℕ, ◌+◌, ◌*◌, ◌≤◌, ◌<◌}
use native.Mathlib.Omega.{arith}
use lib.Dec.{eqb}
use lib.ListN.{length}
use borrow.Author.Tests.{eq-eqb, eqb-true}
use Rattle.octets.specs.Bytes.{put, digits, right}
use Rattle.octets.proofs.Bytes.{length_put, length_bytes_at, read_other, put_inside}
use Rattle.octets.proofs.Numbers.{length_digits}
use Rattle.octets.proofs.Bits.{front_put_bits}
use Rattle.store.specs.declared.Layout.{Layout}
use Rattle.store.specs.Layout.{Sound}
use Rattle.store.specs.Header.{header, word_at, is_taken, head_good, words_good}
use Rattle.store.specs.Store.{well_formed, put_capabilities, put_live, put_word, put_taken, put_slot}
use Rattle.store.proofs.Search.{both}
use Rattle.store.proofs.Readings.{step}

module _ (l : Layout) (so : Sound l) (s : List ℕ) where
  pub header_full : length s ≡ l.size → length (header l s) ≡ l.guests_at
  unfolding header
  header_full e = length_bytes_at s 0 l.guests_at (omega (arith, so.guests_fit, so.whole))

  -- the frame of every write into values
  pub header_values : (p : ℕ) (v : List ℕ) → l.guests_at ≤ p → header l (put s p v) ≡ header l s
  unfolding header
  header_values p v k = read_other s p v 0 l.guests_at (right (omega arith))

  pub header_caps : (c : ℕ) → header l (put_capabilities s c) ≡ put_capabilities (header l s) c
  unfolding header put_capabilities
  header_caps c = put_inside s 0 (digits 8 c) 0 l.guests_at (omega (arith, length_digits 8 c, so.head, so.words))

  pub header_word : (j w : ℕ) → j < l.slots → header l (put_word l s j w) ≡ put_word l (header l s) j w
  unfolding header put_word
  header_word j w k = front_put_bits s l.guests_at (word_at l j) l.width w (omega (arith, step l.width j l.slots k, so.words))

  pub header_live : (g b : ℕ) → g ≤ l.guests → header l (put_live s g b) ≡ put_live (header l s) g b
  unfolding header put_live
  header_live g b k = front_put_bits s l.guests_at (63 + g) 1 b (omega (arith, so.head, so.words))

  pub header_mark : (j b : ℕ) → j < l.slots → header l (put_taken l s j b) ≡ put_taken l (header l s) j b
  unfolding header put_taken
  header_mark j b k = front_put_bits s l.guests_at (8 * l.taken_at + j) 1 b (omega (arith, so.marks))

  -- a write into values leaves the marks
  pub taken_values : (p : ℕ) (v : List ℕ) (a : ℕ) → l.guests_at ≤ p → is_taken l (header l (put s p v)) a ≡ is_taken l (header l s) a
  taken_values p v a k = ap (λ (h : List ℕ). is_taken l h a) (header_values p v k)

pub header_slot : (l : Layout) → Sound l → (s : List ℕ) (j w : ℕ) → j < l.slots → header l (put_slot l s j w) ≡ put_slot l (header l s) j w
unfolding put_slot
header_slot l so s j w k = header_word l so (put_taken l s j 0) j w k ∙ ap (λ (h : List ℕ). put_word l h j w) (header_mark l so s j 0 k)

-- ---- a well-formed store, taken apart and put together
pub record Formed (l : Layout) (s : List ℕ) : Type 0 where
  pub long : length s ≡ l.size
  pub head : head_good l (header l s) ≡ true
  pub words : words_good l (header l s) ≡ true

pub formed : (l : Layout) (s : List ℕ) → well_formed l s ≡ true → Formed l s
unfolding well_formed
formed l s e =
    let p = both (eqb (length s) l.size) (head_good l (header l s) && words_good l (header l s)) e in
    let q = both (head_good l (header l s)) (words_good l (header l s)) p.1 in
    record { long = eqb-true _ _ p.0; head = q.0; words = q.1 }

pub well_formed_lem : (l : Layout) (s : List ℕ) → Formed l s → well_formed l s ≡ true
unfolding well_formed
well_formed_lem l s f = simp (eq-eqb _ _ f.long, f.head, f.words)

-- a write into values keeps a store as well formed as it was
pub formed_values : (l : Layout) → Sound l → (s : List ℕ) (p : ℕ) (v : List ℕ) → l.guests_at ≤ p → well_formed l (put s p v) ≡ well_formed l s
unfolding well_formed
formed_values l so s p v k = rw (length_put s p v, header_values l so s p v k)
