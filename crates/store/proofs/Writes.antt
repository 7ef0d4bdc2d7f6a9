-- What the code writes is what the definitions say, in the form of the code's needs. Assumes nothing.
use mathlib.Core.Path.{◌≡◌, refl, sym, ap, ap₂, ◌∙◌}
use mathlib.Core.List.{List}
use Prim.Native.Nat.{ℕ, zero, suc, ◌+◌, ◌-◌, ◌*◌, ◌/◌, ◌%◌, ◌^◌, ◌≤◌, ◌<◌}
use native.Mathlib.Omega.{arith}
use native.Mathlib.Numerals.{add-one}
use mir.Syntax.{w8}
use mir.Val.{Fits}
use lib.ListN.{length, get_or, set}
use borrow.Author.Tests.{eq-eqb, ne_eqb}
use Rattle.octets.specs.Bytes.{put, digits, zeros}
use Rattle.octets.specs.Bits.{ins, set_bit, put_bits}
use Rattle.octets.proofs.Bits.{put_bytes}
use Rattle.store.specs.declared.Layout.{Layout}
use Rattle.store.specs.Layout.{Sound, guest_bytes, slot_bytes, guest_at, slot_at}
use Rattle.store.specs.Header.{header, word_at, word, word_of, guest_of}
use Rattle.store.specs.Store.{put_capabilities, put_live, put_word, put_taken, put_slot, with_guest, with_vcpu, drop_word, drop_words, without_guest, no_words, no_guests, without_guests}
use Rattle.store.proofs.Readings.{pair_inside}

pub caps_put : (s t : List ℕ) (c : ℕ) → t ≡ put s 0 (digits 8 c) → t ≡ put_capabilities s c
unfolding put_capabilities
caps_put s t c e = e

pub word_put : (l : Layout) (s t : List ℕ) (i w : ℕ) → t ≡ put_bits s (word_at l i) l.width w → t ≡ put_word l s i w
unfolding put_word
word_put l s t i w e = e

-- as two bytes
pub pair_put : (l : Layout) → Sound l → l.width ≡ 16 → (s t : List ℕ) (i w : ℕ) → length s ≡ l.size → i < l.slots → ((k : ℕ) → Fits w8 (get_or s k 0))
    → t ≡ put s (l.words_at + 2 * i) (digits 2 w) → t ≡ put_word l s i w
unfolding put_word
pair_put l h two s t i w long k b e =
    let a : 8 * l.words_at + 16 * i ≡ 8 * (l.words_at + 2 * i) = omega arith in
    let r : l.words_at + 2 * i + 2 ≤ length s = omega (arith, pair_inside l h s two i k, h.guests_fit, h.whole) in
    e ∙ sym (ap (λ (n : ℕ). put_bits s (8 * l.words_at + n * i) n w) two ∙ ap (λ (n : ℕ). put_bits s n 16 w) a
    ∙ put_bytes s (l.words_at + 2 * i) 2 w r (λ j m. (b (l.words_at + 2 * i + j)).fits))

pub pair_fits : (l : Layout) (w : ℕ) → Sound l → l.width ≡ 16 → w < 4096 * l.ids → w < 2 ^ 16
pair_fits l w h two k = omega (arith, sym h.digits ∙ ap (λ (n : ℕ). 2 ^ n) two)

-- a word has the layout's digits
pub word_fits : (l : Layout) (w : ℕ) → Sound l → w < 4096 * l.ids → w < 2 ^ l.width
word_fits l w h k = omega (arith, h.digits)

-- ---- a live bit or a mark: the three parts of its byte, and that they make one
pub record Parts (x k b : ℕ) : Type 0 where
  pub high : x / 2 ^ (k + 1) * 2 ^ (k + 1) % 2 ^ 64 ≡ x / 2 ^ (k + 1) * 2 ^ (k + 1)
  pub low : x / 2 ^ k * 2 ^ k % 2 ^ 64 ≤ x
  pub rest : x - x / 2 ^ k * 2 ^ k % 2 ^ 64 ≡ x % 2 ^ k
  pub mid : b * 2 ^ k % 2 ^ 64 ≡ b % 2 ^ 1 * 2 ^ k
  pub small : x / 2 ^ (k + 1) * 2 ^ (k + 1) + b % 2 ^ 1 * 2 ^ k + x % 2 ^ k < 256

parts : (x k b : ℕ) → x < 256 → k < 8 → b < 2 → Parts x k b
parts x zero b hx hk hb = record { high = omega arith; low = omega arith; rest = omega arith; mid = omega arith; small = omega arith }
parts x (suc zero) b hx hk hb = record { high = omega arith; low = omega arith; rest = omega arith; mid = omega arith; small = omega arith }
parts x (suc (suc zero)) b hx hk hb = record { high = omega arith; low = omega arith; rest = omega arith; mid = omega arith; small = omega arith }
parts x (suc (suc (suc zero))) b hx hk hb = record { high = omega arith; low = omega arith; rest = omega arith; mid = omega arith; small = omega arith }
parts x (suc (suc (suc (suc zero)))) b hx hk hb = record { high = omega arith; low = omega arith; rest = omega arith; mid = omega arith; small = omega arith }
parts x (suc (suc (suc (suc (suc zero))))) b hx hk hb = record { high = omega arith; low = omega arith; rest = omega arith; mid = omega arith; small = omega arith }
parts x (suc (suc (suc (suc (suc (suc zero)))))) b hx hk hb = record { high = omega arith; low = omega arith; rest = omega arith; mid = omega arith; small = omega arith }
parts x (suc (suc (suc (suc (suc (suc (suc zero))))))) b hx hk hb = record { high = omega arith; low = omega arith; rest = omega arith; mid = omega arith; small = omega arith }
parts x (suc (suc (suc (suc (suc (suc (suc (suc k)))))))) b hx hk hb = absurd (omega arith)

module _ (x k b : ℕ) (hx : x < 256) (hk : k < 8) (hb : b < 2) where
  pub bit_low : x / 2 ^ k * 2 ^ k % 2 ^ 64 ≤ x
  bit_low = (parts x k b hx hk hb).low

  pub bit_is : x / 2 ^ (k + 1) * 2 ^ (k + 1) % 2 ^ 64 + b * 2 ^ k % 2 ^ 64 + (x - x / 2 ^ k * 2 ^ k % 2 ^ 64) ≡ ins x k 1 b
  unfolding ins
  bit_is = let p = parts x k b hx hk hb in cc (p.high, p.rest, p.mid)

  pub bit_fits : ins x k 1 b < 256
  unfolding ins
  bit_fits = (parts x k b hx hk hb).small

pub bit_put : (s : List ℕ) (i b x v : ℕ) → x ≡ get_or s (i / 8) 0 → v ≡ ins x (7 - i % 8) 1 b → set s (i / 8) v ≡ put_bits s i 1 b
unfolding put_bits set_bit
bit_put s i b x v e q =
    let f : i + 0 ≡ i = omega arith in
    rw f (ap (set s (i / 8)) (q ∙ ap (λ (y : ℕ). ins y (7 - i % 8) 1 b) e))

pub live_put : (s t : List ℕ) (g b : ℕ) → t ≡ put_bits s (63 + g) 1 b → t ≡ put_live s g b
unfolding put_live
live_put s t g b e = e

pub mark_put : (l : Layout) (s t : List ℕ) (a b : ℕ) → t ≡ put_bits s (8 * l.taken_at + a) 1 b → t ≡ put_taken l s a b
unfolding put_taken
mark_put l s t a b e = e

-- a mark cleared, then the word
pub slot_put : (l : Layout) (s t u : List ℕ) (j w : ℕ) → t ≡ put_taken l s j 0 → u ≡ put_word l t j w → u ≡ put_slot l s j w
unfolding put_slot
slot_put l s t u j w e f = f ∙ ap (λ (x : List ℕ). put_word l x j w) e

-- ---- create
pub guest_made : (l : Layout) (s t u : List ℕ) (g p : ℕ) → t ≡ put_live s g 1 → p ≡ guest_at l g → u ≡ put t p (zeros guest_bytes) → u ≡ with_guest l s g
unfolding with_guest
guest_made l s t u g p e q f = f ∙ ap₂ (λ (x : List ℕ) (i : ℕ). put x i (zeros guest_bytes)) e q

pub vcpu_made : (l : Layout) (s r t u : List ℕ) (j g v p : ℕ) → r ≡ put_taken l s j 0 → t ≡ put_word l r j ((l.ids + g) * 2048 + v) → p ≡ slot_at l j → u ≡ put t p (zeros slot_bytes)
    → u ≡ with_vcpu l s j g v
unfolding with_vcpu word_of
vcpu_made l s r t u j g v p m e q f = f ∙ ap₂ (λ (x : List ℕ) (i : ℕ). put x i (zeros slot_bytes)) (slot_put l s r t j ((l.ids + g) * 2048 + v) m e) q

-- ---- delete
module _ (l : Layout) (g a : ℕ) (s : List ℕ) (w : ℕ) (e : w ≡ word l (header l s) a) (low : 1 ≤ g) where
  pub drop_not : (w / 2048 ≡ l.ids + g → ⊥) → s ≡ drop_word l g a s
  unfolding drop_word guest_of
  drop_not n =
      let m : word l (header l s) a / 2048 - l.ids ≡ g → ⊥ = λ z. n (ap (λ (x : ℕ). x / 2048) e ∙ omega (arith, z)) in
      simp (ne_eqb _ _ m)

  pub drop_it : (t : List ℕ) → w / 2048 ≡ l.ids + g → t ≡ put_slot l s a 0 → t ≡ drop_word l g a s
  unfolding drop_word guest_of
  drop_it t q f =
      let m : word l (header l s) a / 2048 - l.ids ≡ g = omega (arith, ap (λ (x : ℕ). x / 2048) e) in
      f ∙ sym (simp (eq-eqb _ _ m))

module _ (l : Layout) (g : ℕ) (s : List ℕ) where
  pub drop_start : s ≡ drop_words l g 0 s
  unfolding drop_words
  drop_start = refl

  pub drop_turn : (a : ℕ) (t u : List ℕ) → t ≡ drop_words l g a s → u ≡ drop_word l g a t → u ≡ drop_words l g (a + 1) s
  unfolding drop_words
  drop_turn a t u e f = f ∙ ap (drop_word l g a) e ∙ ap (λ (n : ℕ). drop_words l g n s) (sym (add-one a))

  pub drop_end : (a : ℕ) (t : List ℕ) → t ≡ drop_words l g a s → a ≤ l.slots → l.slots ≤ a → t ≡ drop_words l g l.slots s
  drop_end a t e h k = let q : a ≡ l.slots = omega arith in e ∙ ap (λ (n : ℕ). drop_words l g n s) q

  pub deleted : (t u : List ℕ) → t ≡ drop_words l g l.slots s → u ≡ put_live t g 0 → u ≡ without_guest l s g
  unfolding without_guest
  deleted t u e f = f ∙ ap (λ (x : List ℕ). put_live x g 0) e

-- ---- delete all
module _ (l : Layout) (s : List ℕ) where
  pub words_none : s ≡ no_words l 0 s
  unfolding no_words
  words_none = refl

  pub words_more : (a : ℕ) (t u : List ℕ) → t ≡ no_words l a s → u ≡ put_slot l t a 0 → u ≡ no_words l (a + 1) s
  unfolding no_words
  words_more a t u e f = f ∙ ap (λ (x : List ℕ). put_slot l x a 0) e ∙ ap (λ (n : ℕ). no_words l n s) (sym (add-one a))

  pub words_all : (a : ℕ) (t : List ℕ) → t ≡ no_words l a s → a ≤ l.slots → l.slots ≤ a → t ≡ no_words l l.slots s
  words_all a t e h k = let q : a ≡ l.slots = omega arith in e ∙ ap (λ (n : ℕ). no_words l n s) q

  pub guests_none : s ≡ no_guests 0 s
  unfolding no_guests
  guests_none = refl

  pub guests_more : (g : ℕ) (t u : List ℕ) → 1 ≤ g → t ≡ no_guests (g - 1) s → u ≡ put_live t g 0 → u ≡ no_guests (g + 1 - 1) s
  unfolding no_guests
  guests_more g t u k e f =
      let n : g + 1 - 1 ≡ suc (g - 1) = omega arith in
      let m : g ≡ g - 1 + 1 = omega arith in
      f ∙ ap₂ (λ (x : List ℕ) (i : ℕ). put_live x i 0) e m ∙ ap (λ (i : ℕ). no_guests i s) (sym n)

  pub guests_all : (g : ℕ) (t : List ℕ) → t ≡ no_guests (g - 1) s → g ≤ l.guests + 1 → l.guests + 1 ≤ g → t ≡ no_guests l.guests s
  guests_all g t e h k = let q : g - 1 ≡ l.guests = omega arith in e ∙ ap (λ (n : ℕ). no_guests n s) q

  pub all_deleted : (t u : List ℕ) → t ≡ no_words l l.slots s → u ≡ no_guests l.guests t → u ≡ without_guests l s
  unfolding without_guests
  all_deleted t u e f = f ∙ ap (no_guests l.guests) e
