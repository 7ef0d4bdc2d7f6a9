-- What is searched for in two stores that mirror each other is found at the same place, or in neither. Assumes nothing.
use mathlib.Core.Path.{◌≡◌, refl, sym, ap, ◌∙◌, subst}
use mathlib.Core.Logic.{◌≢◌}
use mathlib.Core.Bool.{Bool, true, false, not, ◌&&◌, cond}
use mathlib.Core.List.{List}
use Prim.Native.Nat.{ℕ, ◌+◌, ◌*◌, ◌≤◌, ◌<◌}
use native.Mathlib.Omega.{arith}
use native.Mathlib.Decide.{dec_lt}
use lib.Dec.{eqb, leb, ltb}
use borrow.Author.Tests.{ne_eqb, le-leb, lt-leb, lt-ltb, le-ltb}
use Rattle.store.specs.declared.Layout.{Layout}
use Rattle.store.specs.Layout.{Sound}
use Rattle.store.specs.Search.{first}
use Rattle.store.specs.Header.{header, live, word, word_of, holds, is_taken, slot_holding, slot_of, free_slot, is_dead, free_guest, any_live}
use Rattle.store.proofs.Search.{every_more, first_bounds, first_more, first_none, none_first}
use Rattle.store.proofs.Frame.{formed}
use Rattle.store.proofs.Kept.{words_are}
use Rattle.store.proofs.Edited.{dead_above}
use Rattle.store.proofs.Recoded.{recoded_holds, recoded_free}
use Rattle.store.specs.Conversion.{Within}
use Rattle.promises.specs.Mirror.{Mirrors}

-- both found, at the same place; or neither
pub data Alike (n k a b : ℕ) : Type 0 where
  found : a < n → b ≡ a → Alike n k a b
  absent : a ≡ n → b ≡ k → Alike n k a b

module _ (l m : Layout) (so : Sound l) (so' : Sound m) (within : Within l m) (s t : List ℕ) (mirror : Mirrors l m s t) where
  abbrev h : List ℕ
  h = header l s

  abbrev h' : List ℕ
  h' = header m t

  -- ---- the slot of a vCPU
  holds_both : (g v a : ℕ) → a < l.slots → holds m h' (word_of m g v) a ≡ holds l h (word_of l g v) a
  unfolding holds
  holds_both g v a k = ap (λ (x : ℕ). eqb x (word_of m g v)) (mirror.words a k) ∙ recoded_holds l m so so' (word l h a) g v

  holds_not : (g v a : ℕ) → l.slots ≤ a → a < m.slots → holds m h' (word_of m g v) a ≡ false
  unfolding holds word_of
  holds_not g v a k o =
      let n : word m h' a ≢ (m.ids + g) * 2048 + v = λ e. let z = mirror.unused a k o in omega (arith, e, z, so'.nameable) in
      ne_eqb _ _ n

  holding_both : (g v : ℕ) → Alike l.slots m.slots (slot_holding l h (word_of l g v)) (slot_holding m h' (word_of m g v))
  unfolding slot_holding
  holding_both g v = go (dec_lt (first p l.slots 0) l.slots)
    where
      p : ℕ → Bool
      p = holds l h (word_of l g v)

      q : ℕ → Bool
      q = holds m h' (word_of m g v)

      go : Dec (first p l.slots 0 < l.slots) → Alike l.slots m.slots (first p l.slots 0) (first q m.slots 0)
      go (yes k) = found k (first_more p q l.slots m.slots 0 within.slots (λ a x y. holds_both g v a (omega (arith, y))) (omega arith))
      go (no k) =
          let b = (first_bounds p l.slots 0).1 in
          absent (omega (arith, b)) (none_first q m.slots 0 (λ a x y. each a (omega (arith, y)) (dec_lt a l.slots)) ∙ omega arith)
        where
          each : (a : ℕ) → a < m.slots → Dec (a < l.slots) → q a ≡ false
          each a y (yes z) = holds_both g v a z ∙ first_none p l.slots 0 (omega arith) a (omega arith) (omega arith)
          each a y (no z) = holds_not g v a (omega arith) y

  pub slot_both : (g v : ℕ) → Alike l.slots m.slots (slot_of l h g v) (slot_of m h' g v)
  unfolding slot_of
  slot_both g v = subst (λ (x : Bool). Alike l.slots m.slots (slot_of l h g v) (cond (x && ltb v 2048) (slot_holding m h' (word_of m g v)) m.slots)) (sym (mirror.lives g)) (go (live l h g && ltb v 2048))
    where
      go : (x : Bool) → Alike l.slots m.slots (cond x (slot_holding l h (word_of l g v)) l.slots) (cond x (slot_holding m h' (word_of m g v)) m.slots)
      go true = holding_both g v
      go false = absent refl refl

  -- the tests of it
  alike_leb : {a b : ℕ} → Alike l.slots m.slots a b → leb m.slots b ≡ leb l.slots a
  alike_leb {a} {b} (found k e) = lt-leb m.slots b (omega (arith, e, within.slots)) ∙ sym (lt-leb l.slots a k)
  alike_leb {a} {b} (absent k e) = le-leb m.slots b (omega (arith, e)) ∙ sym (le-leb l.slots a (omega (arith, k)))

  alike_ltb : {a b : ℕ} → Alike l.slots m.slots a b → ltb b m.slots ≡ ltb a l.slots
  alike_ltb {a} {b} (found k e) = lt-ltb b m.slots (omega (arith, e, within.slots)) ∙ sym (lt-ltb a l.slots k)
  alike_ltb {a} {b} (absent k e) = le-ltb b m.slots (omega (arith, e)) ∙ sym (le-ltb a l.slots (omega (arith, k)))

  alike_found : {a b : ℕ} → Alike l.slots m.slots a b → a < l.slots → b ≡ a
  alike_found (found k e) h = e
  alike_found (absent k e) h = absurd (omega (arith, k))

  pub absent_both : (g v : ℕ) → leb m.slots (slot_of m h' g v) ≡ leb l.slots (slot_of l h g v)
  absent_both g v = alike_leb (slot_both g v)

  pub exists_both : (g v : ℕ) → ltb (slot_of m h' g v) m.slots ≡ ltb (slot_of l h g v) l.slots
  exists_both g v = alike_ltb (slot_both g v)

  pub slot_found : (g v : ℕ) → slot_of l h g v < l.slots → slot_of m h' g v ≡ slot_of l h g v
  slot_found g v k = alike_found (slot_both g v) k

  -- whether it is taken
  pub away_found : (g v : ℕ) → slot_of l h g v < l.slots → is_taken m h' (slot_of m h' g v) ≡ is_taken l h (slot_of l h g v)
  away_found g v k = ap (is_taken m h') (slot_found g v k) ∙ mirror.marks (slot_of l h g v) k

  -- ---- whether a guest lives: none above does
  pub any_live_both : any_live m h' ≡ any_live l h
  unfolding any_live is_dead
  any_live_both =
      ap not (every_more (is_dead l h) (is_dead m h') l.guests m.guests 1 within.guests (λ a x y. ap not (mirror.lives a))
      (λ a x. ap not (mirror.lives a ∙ dead_above l h a (omega arith))))

  -- ---- the lowest free slot and guest, where the first store has one
  free_word : (a : ℕ) → a < l.slots → holds m h' 0 a ≡ holds l h 0 a
  unfolding holds
  free_word a k = ap (λ (x : ℕ). eqb x 0) (mirror.words a k) ∙ recoded_free l m so so' (word l h a) (λ n. ((words_are l h (formed l s mirror.formed).words).good a k n).0)

  pub slot_free : free_slot l h < l.slots → free_slot m h' ≡ free_slot l h
  unfolding free_slot slot_holding
  slot_free k = first_more (holds l h 0) (holds m h' 0) l.slots m.slots 0 within.slots (λ a x y. free_word a (omega (arith, y))) (omega (arith, k))

  pub guest_free : free_guest l h ≤ l.guests → free_guest m h' ≡ free_guest l h
  unfolding free_guest is_dead
  guest_free k = first_more (is_dead l h) (is_dead m h') l.guests m.guests 1 within.guests (λ a x y. ap not (mirror.lives a)) (omega (arith, k))
