-- The loop of the filter and the test of one slot, in the form of the code's needs. Assumes nothing.
use mathlib.Core.Path.{◌≡◌, sym, ap, ◌∙◌}
use mathlib.Core.Bool.{Bool, true, false, not, ◌&&◌, cond}
use mathlib.Core.List.{List}
use Prim.Native.Nat.{ℕ, ◌+◌, ◌-◌, ◌*◌, ◌/◌, ◌^◌, ◌≤◌, ◌<◌}
use native.Mathlib.Omega.{arith}
use lib.Dec.{eqb}
use borrow.Author.Tests.{eq-eqb, ne_eqb, le-leb, lt-leb, not-true, not-false}
use Rattle.store.specs.declared.Layout.{Layout}
use Rattle.store.specs.Layout.{Sound}
use Rattle.store.specs.Search.{every}
use Rattle.store.specs.Header.{word, live, is_used, guest_of, is_taken, alone, slot_good, words_good}
use Rattle.store.specs.Filter.{met, meet, Noted, Tested}
use Rattle.store.proofs.Search.{no_bool}
use Rattle.store.proofs.Loops.{every_end, every_past, every_out}
use Rattle.store.proofs.Noted.{noted_zero, noted_more, new_alone}

-- a word is small enough to be hashed
pub hashable : (l : Layout) (w : ℕ) → Sound l → w < 4096 * l.ids → w < 2 ^ 18
hashable l w h k = omega (arith, h.few_ids)

-- ---- all slots
module _ (l : Layout) (h : List ℕ) where
  pub filter_start : words_good l h ≡ every (slot_good l h) (l.slots - 0) 0
  unfolding words_good
  filter_start = let e : l.slots ≡ l.slots - 0 = omega arith in ap (λ (n : ℕ). every (slot_good l h) n 0) e

  module _ (f : Bool) (a : ℕ) (i : f ≡ every (slot_good l h) (l.slots - a) a) (x : Bool) (m : List ℕ) (t : Tested l h m a x) where
    pub filter_bad : a < l.slots → not x ≡ true → false ≡ f
    filter_bad k q = sym (i ∙ every_out (slot_good l h) l.slots a k (sym t.good ∙ not-true x q))

    pub filter_turn : a < l.slots → not x ≡ false → f ≡ every (slot_good l h) (l.slots - (a + 1)) (a + 1)
    filter_turn k q = i ∙ every_past (slot_good l h) l.slots a k (sym t.good ∙ not-false x q)

  pub filter_end : (f : Bool) (a : ℕ) → f ≡ every (slot_good l h) (l.slots - a) a → l.slots ≤ a → true ≡ f
  filter_end f a i k = sym (i ∙ every_end (slot_good l h) l.slots a k)

  pub filter_noted : (m : List ℕ) (a : ℕ) (x : Bool) → Tested l h m a x → not x ≡ false → Noted l h m (a + 1)
  filter_noted m a x t q = t.noted (not-false x q)

-- ---- one slot
module _ (l : Layout) (so : Sound l) (h m : List ℕ) (a w : ℕ) (e : w ≡ word l h a) (f : Noted l h m a) where
  abbrev body : ℕ → Bool
  body w = cond (eqb w 0) (not (is_taken l h a)) (is_used l w && (live l h (guest_of l w) && alone l h w a))

  slot_is : slot_good l h a ≡ body w
  unfolding slot_good
  slot_is = ap body (sym e)

  pub filter_zero : (x : Bool) → w ≡ 0 → x ≡ is_taken l h a → Tested l h m a (not x)
  filter_zero x z t = record { good = ap not t ∙ sym (slot_is ∙ simp (eq-eqb _ _ z)); noted = λ k. noted_zero l h m a w e f z }

  module _ (used : w ≡ 0 → ⊥) where
    pub filter_unused : w / 2048 < l.ids → Tested l h m a false
    unfolding is_used
    filter_unused u =
        let k : w < l.ids * 2048 = omega arith in
        record { good = sym (slot_is ∙ simp (ne_eqb _ _ used, lt-leb _ _ k)); noted = λ t. absurd (no_bool t) }

    module _ (u : l.ids ≤ w / 2048) (x : Bool) (g : x ≡ live l h (w / 2048 - l.ids)) where
      pub filter_dead : x ≡ false → Tested l h m a false
      unfolding is_used guest_of
      filter_dead q =
          let k : l.ids * 2048 ≤ w = omega arith in
          record { good = sym (slot_is ∙ simp (ne_eqb _ _ used, le-leb _ _ k, sym g ∙ q)); noted = λ t. absurd (no_bool t) }

      slot_alone : x ≡ true → slot_good l h a ≡ alone l h w a
      unfolding is_used guest_of
      slot_alone q =
          let k : l.ids * 2048 ≤ w = omega arith in
          slot_is ∙ simp (ne_eqb _ _ used, le-leb _ _ k, sym g ∙ q)

      module _ (q : x ≡ true) (y : Bool) (c : y ≡ met m w) (n : List ℕ) (d : n ≡ meet m w) where
        pub filter_new : not y ≡ true → Tested l h n a true
        filter_new r = record { good = sym (slot_alone q ∙ new_alone l h m a w e f used (sym c ∙ not-true y r)); noted = λ t. noted_more l h m a w e f n d }

        pub filter_met : (z : Bool) → z ≡ alone l h w a → Tested l h n a z
        filter_met z r = record { good = r ∙ sym (slot_alone q); noted = λ t. noted_more l h m a w e f n d }
