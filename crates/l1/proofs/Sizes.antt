-- The bytes of changed elements by their sizes: what the marks of each size count is what the elements weigh. Assumes nothing.
use mathlib.Core.Path.{◌≡◌, refl, sym, ap, ap₂, ◌∙◌, subst}
use mathlib.Core.Logic.{inl, inr}
use mathlib.Core.Bool.{Bool, true, false, ◌&&◌, cond}
use mathlib.Core.List.{List, [], ◌∷◌}
use Prim.Native.Nat.{ℕ, zero, suc, ◌+◌, ◌*◌, ◌^◌, ◌≤◌, ◌<◌}
use native.Mathlib.Omega.{arith}
use lib.Dec.{eqb}
use lib.Bits.{bit_and, and_zero_l}
use lib.Count.{ones}
use lib.ListN.{get_or}
use borrow.Author.Tests.{lt-ltb, le-ltb}
use Rattle.elements.specs.Table.{table, below, position, numbered, thread_element}
use Rattle.exits.specs.Exits.{weigh, row_bytes}
use Rattle.store.specs.Search.{tally}
use Rattle.store.proofs.Search.{tally_ext, tally_none}
use Rattle.l1.specs.Cache.{chosen}
use Rattle.l1.specs.Private.{is_changed, Sized, has_size, sized_in, word_bytes}
use Rattle.l1.proofs.Masks.{mask, mask_and, ones_mask, changed_mask}
use Rattle.l1.proofs.Words.{marks_few, tally_append, tally_words}
use Rattle.l1.proofs.Values.{number_sized}
use Rattle.l1.proofs.Pending.{weigh_more}

-- ---- the masks: the code's words are those of the sizes, computed
abbrev fours : List ℕ
fours = 0 ∷ 0x000001FFFC000000 ∷ 0x0000000001800000 ∷ []

abbrev eights : List ℕ
eights = 0x3FFFFFFFFFFFFFFF ∷ 0xFFFFFE0000000000 ∷ 0x0000000002400000 ∷ []

abbrev sixteens : List ℕ
sixteens = 0xC000000000000000 ∷ 0x0000000003FFFFFF ∷ 0xFFFFFFFFFC000000 ∷ []

sizes_listed : (k : ℕ) → k < 3
    → (get_or fours k 0 ≡ mask (has_size 4) 64 (64 * k)) × (get_or eights k 0 ≡ mask (has_size 8) 64 (64 * k)) × (get_or sixteens k 0 ≡ mask (has_size 16) 64 (64 * k))
unfolding mask thread_element numbered table position below
sizes_listed zero h = (refl, refl, refl)
sizes_listed (suc zero) h = (refl, refl, refl)
sizes_listed (suc (suc zero)) h = (refl, refl, refl)
sizes_listed (suc (suc (suc k))) h = absurd (omega arith)

-- ---- one word
pub word_small : (m : List ℕ) (k : ℕ) → get_or m (3 + k) 0 < 2 ^ 64
    → 8 * ones (bit_and (get_or m (3 + k) 0) (get_or fours k 0)) + 12 * ones (bit_and (get_or m (3 + k) 0) (get_or eights k 0)) + 20 * ones (bit_and (get_or m (3 + k) 0) (get_or sixteens k 0)) ≤ 2560
word_small m k f = let w = get_or m (3 + k) 0 in omega (arith, marks_few w (get_or fours k 0) f, marks_few w (get_or eights k 0) f, marks_few w (get_or sixteens k 0) f)

module _ (m : List ℕ) (k : ℕ) (h : k < 3) (f : get_or m (3 + k) 0 < 2 ^ 64) where
  counted : (n w : ℕ) → w ≡ mask (has_size n) 64 (64 * k) → ones (bit_and (get_or m (3 + k) 0) w) ≡ sized_in (is_changed m) n k
  counted n w e =
      ap₂ (λ (a b : ℕ). ones (bit_and a b)) (sym (changed_mask m k f)) e ∙ ap ones (mask_and (is_changed m) (has_size n) 64 (64 * k))
      ∙ ones_mask (λ e. is_changed m e && has_size n e) 64 (64 * k)

  pub word_bytes_lem : 8 * ones (bit_and (get_or m (3 + k) 0) (get_or fours k 0)) + 12 * ones (bit_and (get_or m (3 + k) 0) (get_or eights k 0)) + 20 * ones (bit_and (get_or m (3 + k) 0) (get_or sixteens k 0))
      ≡ word_bytes (is_changed m) k
  word_bytes_lem =
      let s = sizes_listed k h in
      ap₂ (λ (a b : ℕ). a + b) (ap₂ (λ (a b : ℕ). 8 * a + 12 * b) (counted 4 (get_or fours k 0) s.0) (counted 8 (get_or eights k 0) s.1)) (ap (λ (a : ℕ). 20 * a) (counted 16 (get_or sixteens k 0) s.2))

pub word_none : (m : List ℕ) (k : ℕ) → k < 3 → get_or m (3 + k) 0 ≡ 0 → 0 ≡ word_bytes (is_changed m) k
unfolding ones
word_none m k h e =
    sym (ap (λ (w : ℕ). 8 * ones (bit_and w (get_or fours k 0)) + 12 * ones (bit_and w (get_or eights k 0)) + 20 * ones (bit_and w (get_or sixteens k 0))) e
    ∙ ap₂ (λ (a b : ℕ). 8 * ones a + 12 * ones b + 20 * ones (bit_and 0 (get_or sixteens k 0))) (and_zero_l (get_or fours k 0)) (and_zero_l (get_or eights k 0))
    ∙ ap (λ (a : ℕ). 20 * ones a) (and_zero_l (get_or sixteens k 0)))
    ∙ word_bytes_lem m k h (omega arith)

-- ---- the elements
weight_one : (b : Bool) (n : ℕ) → Sized n → cond b (4 + n) 0 ≡ 8 * cond (b && eqb n 4) 1 0 + 12 * cond (b && eqb n 8) 1 0 + 20 * cond (b && eqb n 16) 1 0
weight_one false n s = refl
weight_one true n (inl e) = subst (λ (n : ℕ). 4 + n ≡ 8 * cond (eqb n 4) 1 0 + 12 * cond (eqb n 8) 1 0 + 20 * cond (eqb n 16) 1 0) (sym e) refl
weight_one true n (inr (inl e)) = subst (λ (n : ℕ). 4 + n ≡ 8 * cond (eqb n 4) 1 0 + 12 * cond (eqb n 8) 1 0 + 20 * cond (eqb n 16) 1 0) (sym e) refl
weight_one true n (inr (inr e)) = subst (λ (n : ℕ). 4 + n ≡ 8 * cond (eqb n 4) 1 0 + 12 * cond (eqb n 8) 1 0 + 20 * cond (eqb n 16) 1 0) (sym e) refl

module _ (p : ℕ → Bool) where
  abbrev sized : ℕ → ℕ → ℕ
  sized n e = tally (λ e. p e && has_size n e) e

  abbrev one : ℕ → ℕ → ℕ
  one n e = cond (p e && eqb (thread_element e).size n) 1 0

  sized_next : (n e : ℕ) → e < 170 → sized n (suc e) ≡ sized n e + one n e
  unfolding tally
  sized_next n e h = ap (λ (t : Bool). sized n e + cond (p e && (t && eqb (thread_element e).size n)) 1 0) (lt-ltb e 170 h)

  weigh_all : (e : ℕ) → e ≤ 170 → weigh (chosen p e) ≡ 8 * sized 4 e + 12 * sized 8 e + 20 * sized 16 e
  unfolding weigh chosen tally
  weigh_all zero h = refl
  weigh_all (suc e) h =
      omega (arith, weigh_more p e (omega arith), weigh_all e (omega arith), weight_one (p e) (thread_element e).size (number_sized e (omega arith)), sized_next 4 e (omega arith), sized_next 8 e (omega arith), sized_next 16 e (omega arith))

  -- none past the last
  sized_past : (n : ℕ) → sized n 192 ≡ sized n 170
  sized_past n =
      let q : tally (λ e. p (170 + e) && has_size n (170 + e)) 22 ≡ 0 = tally_ext (λ e. p (170 + e) && has_size n (170 + e)) (λ e. false) 22 (λ e h. none e) ∙ tally_none 22 in
      omega (arith, tally_append (λ e. p e && has_size n e) 170 22, q)
    where
      and_false : (t : Bool) → t && false ≡ false
      and_false true = refl
      and_false false = refl

      none : (e : ℕ) → p (170 + e) && has_size n (170 + e) ≡ false
      none e = ap (λ (t : Bool). p (170 + e) && (t && eqb (thread_element (170 + e)).size n)) (le-ltb (170 + e) 170 (omega arith)) ∙ and_false (p (170 + e))

  words : (n : ℕ) → sized n 170 ≡ sized_in p n 0 + sized_in p n 1 + sized_in p n 2
  words n = sym (sized_past n) ∙ tally_words (λ e. p e && has_size n e)

  pub bytes_all : (x y z : ℕ) → x ≡ word_bytes p 0 → y ≡ word_bytes p 1 → z ≡ word_bytes p 2 → 4 + x + y + z ≡ row_bytes (chosen p 170)
  bytes_all x y z a b c = omega (arith, a, b, c, weigh_all 170 (omega arith), words 4, words 8, words 16)
