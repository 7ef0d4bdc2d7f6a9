-- A store that says what a well-formed one says is well formed. Assumes nothing.
use mathlib.Core.Path.{◌≡◌, sym, ap, ◌∙◌}
use mathlib.Core.Logic.{◌≢◌}
use mathlib.Core.Bool.{Bool, true, false, ◌&&◌}
use mathlib.Core.List.{List}
use Prim.Native.Nat.{ℕ, ◌+◌, ◌*◌, ◌≤◌, ◌<◌}
use native.Mathlib.Omega.{arith}
use native.Mathlib.Decide.{dec_lt}
use lib.Dec.{eqb}
use lib.ListN.{length}
use borrow.Author.Tests.{eq-eqb, eqb-true}
use Rattle.octets.specs.Bits.{bits}
use Rattle.store.specs.declared.Layout.{Layout}
use Rattle.store.specs.Layout.{Sound}
use Rattle.store.specs.Header.{header, outside, offered, capabilities_of, live, word, guest_of, is_taken, head_good}
use Rattle.store.specs.Store.{well_formed}
use Rattle.store.specs.Conversion.{recoded}
use Rattle.store.proofs.Search.{both}
use Rattle.store.proofs.Frame.{formed, well_formed_lem}
use Rattle.store.proofs.Kept.{Words, words_are, words_good_lem}
use Rattle.store.proofs.Recoded.{recoded_free, recoded_guest, recoded_some, recoded_used, recoded_one}

-- the fields of two stores that mirror each other, but for the well-formedness of the second and for the values
pub record Says (l m : Layout) (s t : List ℕ) : Type 0 where
  pub long : length t ≡ m.size
  pub zeros : bits (header m t) (64 + m.guests) m.zeros ≡ 0
  pub capabilities : capabilities_of (header m t) ≡ capabilities_of (header l s)
  pub lives : (g : ℕ) → live m (header m t) g ≡ live l (header l s) g
  pub words : (j : ℕ) → j < l.slots → word m (header m t) j ≡ recoded l m (word l (header l s) j)
  pub unused : (j : ℕ) → l.slots ≤ j → j < m.slots → word m (header m t) j ≡ 0
  pub marks : (j : ℕ) → j < l.slots → is_taken m (header m t) j ≡ is_taken l (header l s) j
  pub unmarked : (j : ℕ) → l.slots ≤ j → j < m.slots → is_taken m (header m t) j ≡ false

module _ (l m : Layout) (so : Sound l) (so' : Sound m) (s t : List ℕ) (good : well_formed l s ≡ true) (says : Says l m s t) where
  abbrev h : List ℕ
  h = header l s

  abbrev h' : List ℕ
  h' = header m t

  f : Words l h
  f = words_are l h (formed l s good).words

  head : head_good m h' ≡ true
  unfolding head_good
  head =
      let p = both (eqb (outside offered (capabilities_of h)) 0) (eqb (bits h (64 + l.guests) l.zeros) 0) (formed l s good).head in
      simp (eq-eqb _ _ says.zeros) (ap (λ (x : ℕ). eqb (outside offered x) 0 && true) says.capabilities ∙ ap (λ (x : Bool). x && true) p.0)

  -- a used word of the second lies in a slot of the first
  low : (a : ℕ) → a < m.slots → word m h' a ≢ 0 → a < l.slots
  low a k n = go (dec_lt a l.slots)
    where
      go : Dec (a < l.slots) → a < l.slots
      go (yes q) = q
      go (no q) = absurd (n (says.unused a (omega arith) k))

  words : Words m h'
  words = record { good = λ a k n. good_at a (low a k n) n; sole = λ a b k o n. sole_at a b (low a k n) o n; idle = λ a k z. idle_at a k z (dec_lt a l.slots) }
    where
      good_at : (a : ℕ) → a < l.slots → word m h' a ≢ 0 → (m.ids * 2048 ≤ word m h' a) × (live m h' (guest_of m (word m h' a)) ≡ true)
      good_at a k n =
          let e = says.words a k in
          let some : recoded l m (word l h a) ≢ 0 = λ z. n (e ∙ z) in
          let p = f.good a k (recoded_some l m so so' (word l h a) some) in
          let u = recoded_used l m so so' (word l h a) some in
          (omega (arith, e, u), ap (λ (w : ℕ). live m h' (guest_of m w)) e ∙ ap (live m h') (recoded_guest l m so so' (word l h a)) ∙ says.lives (guest_of l (word l h a)) ∙ p.1)

      sole_at : (a b : ℕ) → a < l.slots → b < a → word m h' a ≢ 0 → word m h' b ≢ word m h' a
      sole_at a b k o n q =
          let e = says.words a k in
          let d = says.words b (omega arith) in
          let some : recoded l m (word l h a) ≢ 0 = λ z. n (e ∙ z) in
          f.sole a b k o (recoded_some l m so so' (word l h a) some) (sym (recoded_one l m so so' (word l h a) (word l h b) some (sym e ∙ sym q ∙ d)))

      -- a word that is zero in the second is zero in the first
      free : (a : ℕ) → a < l.slots → word m h' a ≡ 0 → word l h a ≡ 0
      free a k z = eqb-true _ _ (sym (recoded_free l m so so' (word l h a) (λ n. (f.good a k n).0)) ∙ eq-eqb _ _ (sym (says.words a k) ∙ z))

      idle_at : (a : ℕ) → a < m.slots → word m h' a ≡ 0 → Dec (a < l.slots) → is_taken m h' a ≡ false
      idle_at a k z (yes q) = says.marks a q ∙ f.idle a q (free a q z)
      idle_at a k z (no q) = says.unmarked a (omega arith) k

  pub says_formed : well_formed m t ≡ true
  says_formed = well_formed_lem m t (record { long = says.long; head = head; words = words_good_lem m h' words })
