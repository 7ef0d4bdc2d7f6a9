-- The tests of the definitions, in the form of the code's needs. Assumes nothing.
use mathlib.Core.Path.{◌≡◌, refl, sym, ap, ◌∙◌}
use mathlib.Core.Logic.{◌⊎◌, inl, inr}
use mathlib.Core.Bool.{Bool, true, false, not, ◌&&◌, cond}
use mathlib.Core.List.{List}
use Prim.Native.Nat.{ℕ, ◌+◌, ◌-◌, ◌*◌, ◌/◌, ◌≤◌, ◌<◌}
use native.Mathlib.Omega.{arith}
use lib.Dec.{eqb}
use lib.ListN.{length}
use borrow.Author.Tests.{eq-eqb, ne_eqb, eqb-true, le-leb, lt-leb, lt-ltb, le-ltb, leb-true}
use Rattle.store.specs.declared.Layout.{Layout}
use Rattle.store.specs.Layout.{Sound}
use Rattle.store.specs.Header.{header, live, word, word_of, is_used, guest_of, is_taken, head_good, words_good, slot_holding, slot_of, free_slot}
use Rattle.store.specs.Private.{times_of, slot_counted, head_formed}
use Rattle.store.specs.Store.{well_formed}
use Rattle.store.proofs.Search.{no_bool, both}

-- ---- a slot
module _ (l : Layout) (s : List ℕ) (a w : ℕ) (e : w ≡ word l s a) where
  abbrev body : ℕ → Bool
  body w = cond (eqb w 0) (not (is_taken l s a)) (is_used l w && (live l s (guest_of l w) && eqb (times_of l s w) 1))

  slot_is : slot_counted l s a ≡ body w
  unfolding slot_counted
  slot_is = ap body (sym e)

  pub slot_zero : (x : Bool) → w ≡ 0 → x ≡ is_taken l s a → not x ≡ slot_counted l s a
  slot_zero x z t = ap not t ∙ sym (slot_is ∙ simp (eq-eqb _ _ z))

  pub slot_unused : (w ≡ 0 → ⊥) → w / 2048 < l.ids → false ≡ slot_counted l s a
  unfolding is_used
  slot_unused n h = let k : w < l.ids * 2048 = omega arith in sym (slot_is ∙ simp (ne_eqb _ _ n, lt-leb _ _ k))

  module _ (n : w ≡ 0 → ⊥) (u : l.ids ≤ w / 2048) (x : Bool) (f : x ≡ live l s (w / 2048 - l.ids)) where
    pub slot_dead : x ≡ false → false ≡ slot_counted l s a
    unfolding is_used guest_of
    slot_dead q = let h : l.ids * 2048 ≤ w = omega arith in sym (slot_is ∙ simp (ne_eqb _ _ n, le-leb _ _ h, sym f ∙ q))

    pub slot_once : (y : ℕ) → x ≡ true → y ≡ times_of l s w → eqb y 1 ≡ slot_counted l s a
    unfolding is_used guest_of
    slot_once y q r =
        let h : l.ids * 2048 ≤ w = omega arith in
        ap (λ (m : ℕ). eqb m 1) r ∙ sym (slot_is ∙ simp (ne_eqb _ _ n, le-leb _ _ h, sym f ∙ q))

-- ---- the slot of a vCPU
module _ (l : Layout) (s : List ℕ) (g v : ℕ) (x : Bool) (e : x ≡ live l s g) where
  pub of_none : (x ≡ false) ⊎ ((x ≡ true) × (2048 ≤ v)) → l.slots ≡ slot_of l s g v
  unfolding slot_of
  of_none (inl q) = simp (sym e ∙ q)
  of_none (inr q) = simp (sym e ∙ q.0, le-ltb _ _ q.1)

  pub of_found : (r : ℕ) → x ≡ true → v < 2048 → r ≡ slot_holding l s ((l.ids + g) * 2048 + v) → r ≡ slot_of l s g v
  unfolding slot_of word_of
  of_found r q h f = f ∙ sym (simp (sym e ∙ q, lt-ltb _ _ h))

pub live_parts : (l : Layout) (s : List ℕ) (g : ℕ) → live l s g ≡ true → (1 ≤ g) × (g ≤ l.guests)
unfolding live
live_parts l s g h =
    let p = both _ _ h in
    let q = both _ _ p.0 in
    (leb-true _ _ q.0, leb-true _ _ q.1)

-- a live guest's number is small enough for a slot word
pub live_small : (l : Layout) (s : List ℕ) (g : ℕ) (x : Bool) → Sound l → x ≡ live l s g → x ≡ true → g < l.ids
live_small l s g x h e q = let p = live_parts l s g (sym e ∙ q) in omega (arith, p.1, h.nameable)

-- and its vCPU's word is one
pub word_small : (l : Layout) (s : List ℕ) (g v : ℕ) (x : Bool) → Sound l → x ≡ live l s g → x ≡ true → v < 2048 → (l.ids + g) * 2048 + v < 4096 * l.ids
word_small l s g v x h e q k = omega (arith, live_small l s g x h e q)

pub free_is : (l : Layout) (s : List ℕ) (r : ℕ) → r ≡ slot_holding l s 0 → r ≡ free_slot l s
unfolding free_slot
free_is l s r e = e

-- ---- the whole
module _ (l : Layout) (s : List ℕ) where
  pub head_long : (length s ≡ l.size → ⊥) → false ≡ head_formed l s
  unfolding head_formed
  head_long n = simp (ne_eqb _ _ n)

  pub head_told : (x : Bool) → length s ≡ l.size → x ≡ head_good l (header l s) → x ≡ head_formed l s
  unfolding head_formed
  head_told x e q = q ∙ sym (simp (eq-eqb _ _ e))

  module _ (x : Bool) (q : x ≡ head_formed l s) where
    head_parts : head_formed l s ≡ true → (length s ≡ l.size) × (head_good l (header l s) ≡ true)
    unfolding head_formed
    head_parts h = let p = both _ _ h in (eqb-true _ _ p.0, p.1)

    pub head_size : x ≡ true → length s ≡ l.size
    head_size f = (head_parts (sym q ∙ f)).0

    -- in the layout m, which is l
    module _ (m : Layout) (e : l ≡ m) where
      pub wf_head : x ≡ false → false ≡ well_formed m s
      unfolding well_formed head_formed
      wf_head f = sym (ap (λ (k : Layout). well_formed k s) (sym e) ∙ none (eqb (length s) l.size) (head_good l (header l s)) (words_good l (header l s)) (sym q ∙ f))
        where
          none : (a b c : Bool) → (a && b) ≡ false → (a && (b && c)) ≡ false
          none true true c h = absurd (no_bool (sym h))
          none true false c h = refl
          none false b c h = refl

      pub wf_words : (y : Bool) → x ≡ true → y ≡ words_good l (header l s) → y ≡ well_formed m s
      unfolding well_formed
      wf_words y f r =
          let p = head_parts (sym q ∙ f) in
          r ∙ sym (ap (λ (k : Layout). well_formed k s) (sym e) ∙ simp (eq-eqb _ _ p.0, p.1))
