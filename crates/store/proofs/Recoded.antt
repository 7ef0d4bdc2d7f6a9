-- The laws of a slot word of one layout as one of another. Assumes nothing.
use mathlib.Core.Path.{◌≡◌, sym, ap, ◌∙◌}
use mathlib.Core.Logic.{◌≢◌}
use mathlib.Core.Bool.{true, cond}
use mathlib.Core.List.{List}
use Prim.Native.Nat.{ℕ, ◌+◌, ◌-◌, ◌*◌, ◌/◌, ◌≤◌, ◌<◌}
use native.Mathlib.Omega.{arith}
use native.Mathlib.Decide.{ℕ_discrete, dec_lt}
use lib.Dec.{eqb, leb}
use borrow.Author.Tests.{eq-eqb, ne_eqb, le-leb, lt-leb}
use Rattle.store.specs.declared.Layout.{Layout}
use Rattle.store.specs.Layout.{Sound}
use Rattle.store.specs.Header.{header, word, word_of, is_used, guest_of}
use Rattle.store.specs.Store.{well_formed}
use Rattle.store.specs.Conversion.{Within, recoded}
use Rattle.store.proofs.Tests.{live_parts}
use Rattle.store.proofs.Frame.{formed}
use Rattle.store.proofs.Kept.{words_are}

-- the two cases of a word
data Recoded (l m : Layout) (w x : ℕ) : Type 0 where
  used : l.ids * 2048 ≤ w → x ≡ w - l.ids * 2048 + m.ids * 2048 → Recoded l m w x
  none : w < l.ids * 2048 → x ≡ 0 → Recoded l m w x

recoded_is : (l m : Layout) (w : ℕ) → Recoded l m w (recoded l m w)
unfolding recoded is_used
recoded_is l m w = go (dec_lt w (l.ids * 2048))
  where
    go : Dec (w < l.ids * 2048) → Recoded l m w (cond (leb (l.ids * 2048) w) (w - l.ids * 2048 + m.ids * 2048) 0)
    go (yes h) = none h (simp (lt-leb _ _ h))
    go (no h) = let k : l.ids * 2048 ≤ w = omega arith in used k (simp (le-leb _ _ k))

-- a well-formed store's words name its layout's guests, or none
zero_guest : (l : Layout) (w : ℕ) → w ≡ 0 → guest_of l w ≤ l.guests
unfolding guest_of
zero_guest l w z = omega (arith, z)

pub word_guest : (l : Layout) (s : List ℕ) → well_formed l s ≡ true → (j : ℕ) → j < l.slots → guest_of l (word l (header l s) j) ≤ l.guests
word_guest l s good j k = go (ℕ_discrete (word l (header l s) j) 0)
  where
    go : Dec (word l (header l s) j ≡ 0) → guest_of l (word l (header l s) j) ≤ l.guests
    go (yes z) = zero_guest l (word l (header l s) j) z
    go (no n) = (live_parts l (header l s) (guest_of l (word l (header l s) j)) ((words_are l (header l s) (formed l s good).words).good j k n).1).1

-- two tests that hold together
same_eqb : (a b c d : ℕ) → (a ≡ b → c ≡ d) → (c ≡ d → a ≡ b) → eqb c d ≡ eqb a b
same_eqb a b c d f g = go (ℕ_discrete a b)
  where
    go : Dec (a ≡ b) → eqb c d ≡ eqb a b
    go (yes e) = eq-eqb c d (f e) ∙ sym (eq-eqb a b e)
    go (no n) = ne_eqb c d (λ e. n (g e)) ∙ sym (ne_eqb a b n)

module _ (l m : Layout) (so : Sound l) (so' : Sound m) where
  pub recoded_zero : recoded l m 0 ≡ 0
  recoded_zero = go (recoded_is l m 0)
    where
      go : {x : ℕ} → Recoded l m 0 x → x ≡ 0
      go (used h e) = absurd (omega (arith, so.nameable))
      go (none h e) = e

  -- the word of a guest's vCPU
  pub recoded_of : (g v : ℕ) → recoded l m (word_of l g v) ≡ word_of m g v
  unfolding word_of
  recoded_of g v = go (recoded_is l m ((l.ids + g) * 2048 + v))
    where
      go : {x : ℕ} → Recoded l m ((l.ids + g) * 2048 + v) x → x ≡ (m.ids + g) * 2048 + v
      go (used h e) = omega (arith, e)
      go (none h e) = absurd (omega arith)

  pub recoded_holds : (w g v : ℕ) → eqb (recoded l m w) (word_of m g v) ≡ eqb w (word_of l g v)
  unfolding word_of
  recoded_holds w g v = go (recoded_is l m w)
    where
      go : {x : ℕ} → Recoded l m w x → eqb x ((m.ids + g) * 2048 + v) ≡ eqb w ((l.ids + g) * 2048 + v)
      go {x} (used h e) = same_eqb w ((l.ids + g) * 2048 + v) x ((m.ids + g) * 2048 + v) (λ q. omega (arith, e, q)) (λ q. omega (arith, e, q))
      go {x} (none h e) = same_eqb w ((l.ids + g) * 2048 + v) x ((m.ids + g) * 2048 + v) (λ q. absurd (omega (arith, q))) (λ q. absurd (omega (arith, e, q, so'.nameable)))

  -- an unused word is zero in both
  pub recoded_free : (w : ℕ) → (w ≢ 0 → l.ids * 2048 ≤ w) → eqb (recoded l m w) 0 ≡ eqb w 0
  recoded_free w k = go (recoded_is l m w)
    where
      low : w < l.ids * 2048 → Dec (w ≡ 0) → w ≡ 0
      low h (yes e) = e
      low h (no n) = absurd (omega (arith, k n))

      go : {x : ℕ} → Recoded l m w x → eqb x 0 ≡ eqb w 0
      go {x} (used h e) = same_eqb w 0 x 0 (λ q. absurd (omega (arith, q, so.nameable))) (λ q. absurd (omega (arith, e, q, so'.nameable)))
      go {x} (none h e) = same_eqb w 0 x 0 (λ q. e) (λ q. low h (ℕ_discrete w 0))

  pub recoded_guest : (w : ℕ) → guest_of m (recoded l m w) ≡ guest_of l w
  unfolding guest_of
  recoded_guest w = go (recoded_is l m w)
    where
      go : {x : ℕ} → Recoded l m w x → x / 2048 - m.ids ≡ w / 2048 - l.ids
      go (used h e) = omega (arith, e)
      go (none h e) = omega (arith, e)

  -- of a used word: it is one of the other layout, and no other word becomes it
  pub recoded_some : (w : ℕ) → recoded l m w ≢ 0 → w ≢ 0
  recoded_some w n z = n (ap (recoded l m) z ∙ recoded_zero)

  pub recoded_used : (w : ℕ) → recoded l m w ≢ 0 → m.ids * 2048 ≤ recoded l m w
  recoded_used w n = go (recoded_is l m w) n
    where
      go : {x : ℕ} → Recoded l m w x → x ≢ 0 → m.ids * 2048 ≤ x
      go (used h e) k = omega (arith, e)
      go (none h e) k = absurd (k e)

  pub recoded_one : (v w : ℕ) → recoded l m v ≢ 0 → recoded l m v ≡ recoded l m w → v ≡ w
  recoded_one v w n e = go (recoded_is l m v) (recoded_is l m w) n e
    where
      go : {x y : ℕ} → Recoded l m v x → Recoded l m w y → x ≢ 0 → x ≡ y → v ≡ w
      go (used h a) (used k b) z q = omega (arith, a, b, q)
      go (used h a) (none k b) z q = absurd (z (q ∙ b))
      go (none h a) d z q = absurd (z a)

  pub recoded_fits : Within l m → (w : ℕ) → guest_of l w ≤ l.guests → recoded l m w < 4096 * m.ids
  unfolding guest_of
  recoded_fits within w g = go (recoded_is l m w)
    where
      go : {x : ℕ} → Recoded l m w x → x < 4096 * m.ids
      go (used h e) = omega (arith, e, g, within.guests, so'.nameable)
      go (none h e) = omega (arith, e, so'.nameable)
