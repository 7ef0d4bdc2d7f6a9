-- What a write of a live bit, a mark or a slot word leaves: the length, the capabilities, and all values. Assumes nothing.
use mathlib.Core.Path.{◌≡◌, refl, ap, ◌∙◌}
use mathlib.Core.Bool.{Bool, true, false, ◌&&◌, cond}
use mathlib.Core.List.{List}
use Prim.Native.Nat.{ℕ, zero, suc, ◌+◌, ◌*◌, ◌≤◌, ◌<◌}
use native.Mathlib.Omega.{arith}
use lib.Dec.{eqb, leb}
use lib.ListN.{length}
use borrow.Author.Tests.{lt-leb}
use Rattle.octets.specs.Bytes.{bytes_at, left, right}
use Rattle.octets.specs.Bits.{bit, bits}
use Rattle.octets.proofs.Bits.{length_put_bits, be_put_bits, bits_put_other}
use Rattle.store.specs.declared.Layout.{Layout}
use Rattle.store.specs.Layout.{Sound}
use Rattle.store.specs.Header.{header, capabilities_of, live, word_at, word, guest_of}
use Rattle.store.specs.Store.{put_live, put_word, put_taken, put_slot, drop_word, drop_words, without_guest, no_words, no_guests, without_guests}
use Rattle.store.proofs.Readings.{step}
use Rattle.store.proofs.Frame.{header_word, header_live, header_mark}
use Rattle.store.proofs.Beside.{field_behind, mark_long, mark_values}
use Rattle.store.proofs.Kept.{live_long}

-- t is s with other live bits, marks or slot words
pub record Edited (l : Layout) (s t : List ℕ) : Type 0 where
  pub long : length t ≡ l.size
  pub capabilities : capabilities_of (header l t) ≡ capabilities_of (header l s)
  pub behind : (p k : ℕ) → l.guests_at ≤ p → p + k ≤ l.size → bytes_at t p k ≡ bytes_at s p k

pub edited_none : (l : Layout) (s : List ℕ) → length s ≡ l.size → Edited l s s
edited_none l s e = record { long = e; capabilities = refl; behind = λ p k a b. refl }

pub edited_then : (l : Layout) (s t u : List ℕ) → Edited l s t → Edited l t u → Edited l s u
edited_then l s t u a b =
    record { long = b.long; capabilities = b.capabilities ∙ a.capabilities; behind = λ p k x y. b.behind p k x y ∙ a.behind p k x y }

pub word_long : (l : Layout) (s : List ℕ) (j w : ℕ) → length (put_word l s j w) ≡ length s
unfolding put_word
word_long l s j w = length_put_bits s (word_at l j) l.width w

module _ (l : Layout) (so : Sound l) where
  pub live_edited : (s : List ℕ) → length s ≡ l.size → (g b : ℕ) → 1 ≤ g → g ≤ l.guests → Edited l s (put_live s g b)
  unfolding capabilities_of put_live
  live_edited s e g b lo hi = record { long = live_long s g b ∙ e; capabilities = caps; behind = λ p k x y. back p k x y }
    where
      caps : capabilities_of (header l (put_live s g b)) ≡ capabilities_of (header l s)
      caps = ap capabilities_of (header_live l so s g b hi) ∙ be_put_bits (header l s) (63 + g) 1 b 0 8 (right (omega arith))

      back : (p k : ℕ) → l.guests_at ≤ p → p + k ≤ l.size → bytes_at (put_live s g b) p k ≡ bytes_at s p k
      back p k x y = field_behind s (63 + g) 1 b p k (omega (arith, so.head, so.words, hi)) (omega (arith, e))

  pub word_edited : (s : List ℕ) → length s ≡ l.size → (j w : ℕ) → j < l.slots → Edited l s (put_word l s j w)
  unfolding capabilities_of put_word
  word_edited s e j w hj = record { long = word_long l s j w ∙ e; capabilities = caps; behind = λ p k x y. back p k x y }
    where
      caps : capabilities_of (header l (put_word l s j w)) ≡ capabilities_of (header l s)
      caps = ap capabilities_of (header_word l so s j w hj) ∙ be_put_bits (header l s) (word_at l j) l.width w 0 8 (right (omega (arith, so.head)))

      back : (p k : ℕ) → l.guests_at ≤ p → p + k ≤ l.size → bytes_at (put_word l s j w) p k ≡ bytes_at s p k
      back p k x y = field_behind s (word_at l j) l.width w p k (omega (arith, step l.width j l.slots hj, so.words)) (omega (arith, e))

  pub mark_edited : (s : List ℕ) → length s ≡ l.size → (j b : ℕ) → j < l.slots → Edited l s (put_taken l s j b)
  unfolding capabilities_of put_taken
  mark_edited s e j b hj =
      record { long = mark_long l so s j b ∙ e; capabilities = caps; behind = λ p k x y. mark_values l so s j b p k hj x (omega (arith, e)) }
    where
      caps : capabilities_of (header l (put_taken l s j b)) ≡ capabilities_of (header l s)
      caps = ap capabilities_of (header_mark l so s j b hj) ∙ be_put_bits (header l s) (8 * l.taken_at + j) 1 b 0 8 (right (omega (arith, so.marks_head)))

  pub slot_edited : (s : List ℕ) → length s ≡ l.size → (j w : ℕ) → j < l.slots → Edited l s (put_slot l s j w)
  unfolding put_slot
  slot_edited s e j w hj =
      let a = mark_edited s e j 0 hj in
      edited_then l s (put_taken l s j 0) _ a (word_edited (put_taken l s j 0) a.long j w hj)

  -- ---- delete
  module _ (s : List ℕ) (e : length s ≡ l.size) where
    drops_edited : (g n : ℕ) → n ≤ l.slots → Edited l s (drop_words l g n s)
    unfolding drop_words drop_word
    drops_edited g zero h = edited_none l s e
    drops_edited g (suc n) h = go (eqb (guest_of l (word l (header l (drop_words l g n s)) n)) g) (drops_edited g n (omega arith))
      where
        t : List ℕ
        t = drop_words l g n s

        go : (b : Bool) → Edited l s t → Edited l s (cond b (put_slot l t n 0) t)
        go true a = edited_then l s t (put_slot l t n 0) a (slot_edited t a.long n 0 h)
        go false a = a

    pub delete_edited : (g : ℕ) → 1 ≤ g → g ≤ l.guests → Edited l s (without_guest l s g)
    unfolding without_guest
    delete_edited g lo hi =
        let a = drops_edited g l.slots (omega arith) in
        edited_then l s (drop_words l g l.slots s) _ a (live_edited (drop_words l g l.slots s) a.long g 0 lo hi)

    words_edited : (n : ℕ) → n ≤ l.slots → Edited l s (no_words l n s)
    unfolding no_words
    words_edited zero h = edited_none l s e
    words_edited (suc n) h =
        let a = words_edited n (omega arith) in
        edited_then l s (no_words l n s) _ a (slot_edited (no_words l n s) a.long n 0 h)

    guests_edited : (n : ℕ) → n ≤ l.guests → Edited l s (no_guests n s)
    unfolding no_guests
    guests_edited zero h = edited_none l s e
    guests_edited (suc n) h =
        let a = guests_edited n (omega arith) in
        edited_then l s (no_guests n s) _ a (live_edited (no_guests n s) a.long (n + 1) 0 (omega arith) (omega arith))

  pub delete_all_edited : (s : List ℕ) → length s ≡ l.size → Edited l s (without_guests l s)
  unfolding without_guests
  delete_all_edited s e =
      let a = words_edited s e l.slots (omega arith) in
      edited_then l s (no_words l l.slots s) _ a (guests_edited (no_words l l.slots s) a.long l.guests (omega arith))

-- ---- the bits behind the live guests don't see one of them, a mark or a slot word written
pub zeros_live : (l : Layout) (h : List ℕ) (g b : ℕ) → g ≤ l.guests → bits (put_live h g b) (64 + l.guests) l.zeros ≡ bits h (64 + l.guests) l.zeros
unfolding put_live
zeros_live l h g b k = bits_put_other h (63 + g) 1 b (64 + l.guests) l.zeros (left (omega arith))

module _ (l : Layout) (so : Sound l) (h : List ℕ) (j : ℕ) where
  pub zeros_word : (w : ℕ) → bits (put_word l h j w) (64 + l.guests) l.zeros ≡ bits h (64 + l.guests) l.zeros
  unfolding put_word
  zeros_word w = bits_put_other h (word_at l j) l.width w (64 + l.guests) l.zeros (right (omega (arith, so.head)))

  pub zeros_mark : (b : ℕ) → bits (put_taken l h j b) (64 + l.guests) l.zeros ≡ bits h (64 + l.guests) l.zeros
  unfolding put_taken
  zeros_mark b = bits_put_other h (8 * l.taken_at + j) 1 b (64 + l.guests) l.zeros (right (omega (arith, so.marks_head)))

-- ---- guests that a layout does not have
pub dead_zero : (l : Layout) (h : List ℕ) (g : ℕ) → g < 1 → live l h g ≡ false
unfolding live
dead_zero l h g k = simp (lt-leb _ _ k)

pub dead_above : (l : Layout) (h : List ℕ) (g : ℕ) → l.guests < g → live l h g ≡ false
unfolding live
dead_above l h g k = go (leb 1 g)
  where
    go : (b : Bool) → ((b && leb g l.guests) && eqb (bit h (63 + g)) 1) ≡ false
    go true = simp (lt-leb _ _ k)
    go false = refl
