-- The marks of a cache and its test, in the form of the code's needs. Assumes nothing.
use mathlib.Core.Path.{◌≡◌, refl, sym, ap, ap₂, ◌∙◌}
use mathlib.Core.Bool.{Bool, true, false, not, ◌&&◌, ◌||◌, cond}
use mathlib.Core.List.{List, [], ◌∷◌}
use Prim.Native.Nat.{ℕ, zero, suc, ◌+◌, ◌-◌, ◌*◌, ◌%◌, ◌^◌, ◌≤◌, ◌<◌}
use native.Mathlib.Nat.{one-mul}
use native.Mathlib.Decide.{dec_lt}
use native.Mathlib.Omega.{arith}
use lib.Dec.{lit<, eqb, ltb}
use lib.Bits.{bit_and, bit_or}
use lib.ListN.{length, get_or}
use lib.Pow.{shl_exact}
use borrow.Author.Tests.{eq-eqb, ne_eqb, eqb-true, lt-leb, le-leb, not-true, not-false}
use Rattle.rules.specs.declared.Usage.{Usage}
use Rattle.rules.specs.declared.Usage.TheVariants.{ThreadGet, RunInput}
use Rattle.elements.specs.declared.Offer.{Offer}
use Rattle.elements.specs.declared.Offer.TheVariants.{Full, Power9}
use Rattle.elements.specs.declared.Kind.{Kind}
use Rattle.elements.specs.Table.{table, below, position, source_of, find, kind_of, numbered, thread_element}
use Rattle.elements.specs.Later.{later, is_later, offers}
use Rattle.rules.specs.Rules.{between, allows, permits}
use Rattle.store.specs.Layout.{slot_bytes}
use Rattle.store.specs.Search.{every}
use Rattle.store.proofs.Search.{both, every_ext}
use Rattle.l1.specs.Marks.{Cache, valid, changed, allowed, is_input, is_readable, mark_good, good_cache}
use Rattle.l1.specs.Private.{good_marks, input_words}
use Rattle.l1.proofs.Masks.{mask, mask_and, mask_or, mask_not, mask_none, every_append, valid_mask, changed_mask}

pub one_shifted : (k : ℕ) → k < 64 → 1 * 2 ^ k % 2 ^ 64 ≡ 2 ^ k
one_shifted k h = shl_exact 1 k 64 (lit< tt) (omega arith) ∙ one-mul (2 ^ k)

-- ---- the IDs of each operation, but those that it never takes
module _ (o : Offer) (id : ℕ) where
  pub input_nop : id ≡ 0 → is_input o id ≡ false
  unfolding is_input
  input_nop e = simp (eq-eqb _ _ e)

  pub input_as : (id ≡ 0 → ⊥) → is_input o id ≡ allowed o RunInput id
  unfolding is_input
  input_as n = simp (ne_eqb _ _ n)

  special : eqb id 0 || between 0x0C00 0x0C01 id ≡ true → is_readable o id ≡ false
  unfolding is_readable
  special e = simp e

  pub readable_nop : id ≡ 0 → is_readable o id ≡ false
  readable_nop e = special (simp (eq-eqb _ _ e))

  pub readable_input : id ≡ 0x0C00 → is_readable o id ≡ false
  readable_input e = special (ap (λ (n : ℕ). eqb n 0 || between 0x0C00 0x0C01 n) e)

  pub readable_output : id ≡ 0x0C01 → is_readable o id ≡ false
  readable_output e = special (ap (λ (n : ℕ). eqb n 0 || between 0x0C00 0x0C01 n) e)

  pub readable_as : (id ≡ 0 → ⊥) → (id ≡ 0x0C00 → ⊥) → (id ≡ 0x0C01 → ⊥) → is_readable o id ≡ allowed o ThreadGet id
  unfolding is_readable
  readable_as n i p = ap (λ (t : Bool). not t && allowed o ThreadGet id) none
    where
      none : eqb id 0 || between 0x0C00 0x0C01 id ≡ false
      none = go (dec_lt id 0x0C00)
        where
          go : Dec (id < 0x0C00) → eqb id 0 || between 0x0C00 0x0C01 id ≡ false
          go (yes h) = simp (ne_eqb _ _ n, lt-leb _ _ h)
          go (no h) =
              let a : 0x0C00 ≤ id = omega arith in
              let b : 0x0C01 < id = omega arith in
              simp (ne_eqb _ _ n, le-leb _ _ a, lt-leb _ _ b)

-- ---- the masks: mark e is of an element, and of one that a list permits in a run input
abbrev is_element : ℕ → Bool
is_element e = ltb e 170

abbrev is_input_element : Offer → ℕ → Bool
is_input_element o e = is_element e && is_input o (thread_element e).id

abbrev element_words : List ℕ
element_words = 0xFFFFFFFFFFFFFFFF ∷ 0xFFFFFFFFFFFFFFFF ∷ 0xFFFFFFFFFFC00000 ∷ []

-- the code's words are those of the list, whichever it is: its 192 marks, computed
masks_listed : (o : Offer) (k : ℕ) → k < 3 → (get_or element_words k 0 ≡ mask is_element 64 (64 * k)) × (get_or (input_words o) k 0 ≡ mask (is_input_element o) 64 (64 * k))
unfolding input_words mask is_input permits allows offers is_later later kind_of find table source_of position below thread_element numbered
masks_listed Full zero h = (refl, refl)
masks_listed Full (suc zero) h = (refl, refl)
masks_listed Full (suc (suc zero)) h = (refl, refl)
masks_listed Full (suc (suc (suc k))) h = absurd (omega arith)
masks_listed Power9 zero h = (refl, refl)
masks_listed Power9 (suc zero) h = (refl, refl)
masks_listed Power9 (suc (suc zero)) h = (refl, refl)
masks_listed Power9 (suc (suc (suc k))) h = absurd (omega arith)

module _ (o : Offer) where
  pub words_full : o ≡ Full → 0x3FFFFFFFFFFFFFFF ∷ 0xFFFFFFFFFFFFFFFF ∷ 0xFFFFFFFFFC000000 ∷ [] ≡ input_words o
  unfolding input_words
  words_full e = ap input_words (sym e)

  pub words_power9 : o ≡ Power9 → 0x3FFFFFFFFFFFF7FF ∷ 0xB3FF87FBFFFFFFFF ∷ 0xFFFFFFFFFC000000 ∷ [] ≡ input_words o
  unfolding input_words
  words_power9 e = ap input_words (sym e)

-- ---- the 64 marks of a word
module _ (o : Offer) (m : List ℕ) (k : ℕ) (h : k < 3) where
  abbrev c : Cache
  c = record { values = []; marks = m }

  abbrev tested : ℕ → ℕ → ℕ → ℕ → ℕ
  tested v w s t = bit_or (bit_and v (2 ^ 64 - 1 - s)) (bit_and w (2 ^ 64 - 1 - bit_and v t))

  abbrev is_bad : ℕ → Bool
  is_bad e = (valid c e && not (is_element e)) || (changed c e && not (valid c e && is_input_element o e))

  bad_mask : tested (mask (valid c) 64 (64 * k)) (mask (changed c) 64 (64 * k)) (mask is_element 64 (64 * k)) (mask (is_input_element o) 64 (64 * k)) ≡ mask is_bad 64 (64 * k)
  bad_mask =
      let i = 64 * k in
      ap₂ bit_or
      (ap (bit_and (mask (valid c) 64 i)) (mask_not is_element 64 i) ∙ mask_and (valid c) (λ e. not (is_element e)) 64 i)
      (ap (λ (n : ℕ). bit_and (mask (changed c) 64 i) (2 ^ 64 - 1 - n)) (mask_and (valid c) (is_input_element o) 64 i)
      ∙ ap (bit_and (mask (changed c) 64 i)) (mask_not (λ e. valid c e && is_input_element o e) 64 i)
      ∙ mask_and (changed c) (λ e. not (valid c e && is_input_element o e)) 64 i)
      ∙ mask_or (λ e. valid c e && not (is_element e)) (λ e. changed c e && not (valid c e && is_input_element o e)) 64 i

  mark_as : (e : ℕ) → not (is_bad e) ≡ mark_good o c e
  unfolding mark_good
  mark_as e = by (is_element e) (valid c e) (changed c e) (is_input o (thread_element e).id)
    where
      by : (el v ch i : Bool) → not ((v && not el) || (ch && not (v && (el && i)))) ≡ cond el (not ch || (v && i)) (not v && not ch)
      by true true true true = refl
      by true true true false = refl
      by true true false i = refl
      by true false true i = refl
      by true false false i = refl
      by false true ch i = refl
      by false false true i = refl
      by false false false i = refl

  pub word_tells : (ws : List ℕ) → ws ≡ input_words o → get_or m k 0 < 2 ^ 64 → get_or m (3 + k) 0 < 2 ^ 64 → eqb (tested (get_or m k 0) (get_or m (3 + k) 0) (get_or element_words k 0) (get_or ws k 0)) 0 ≡ every (mark_good o c) 64 (64 * k)
  word_tells ws e hv hw =
      ap₂ (λ (s t : ℕ). eqb (tested (get_or m k 0) (get_or m (3 + k) 0) s t) 0) (masks_listed o k h).0 (ap (λ (x : List ℕ). get_or x k 0) e ∙ (masks_listed o k h).1)
      ∙ ap₂ (λ (v w : ℕ). eqb (tested v w (mask is_element 64 (64 * k)) (mask (is_input_element o) 64 (64 * k))) 0) (sym (valid_mask m k hv)) (sym (changed_mask m k hw))
      ∙ ap (λ (n : ℕ). eqb n 0) bad_mask ∙ mask_none is_bad 64 (64 * k) ∙ every_ext (λ e. not (is_bad e)) (mark_good o c) 64 (64 * k) (λ e a b. mark_as e)

-- ---- the three words
module _ (o : Offer) (m : List ℕ) where
  abbrev part : ℕ → Bool
  part k = every (mark_good o (record { values = []; marks = m })) 64 (64 * k)

  parts : (part 0 && part 1) && part 2 ≡ every (mark_good o (record { values = []; marks = m })) 192 0
  parts =
      let p = mark_good o (record { values = []; marks = m }) in
      ap (λ (t : Bool). t && part 2) (sym (every_append p 64 64 0)) ∙ sym (every_append p 128 64 0)

  module _ (x : Bool) (ex : x ≡ every (mark_good o (record { values = []; marks = m })) 64 (64 * 0)) where
    pub words_first : not x ≡ true → false ≡ every (mark_good o (record { values = []; marks = m })) 192 0
    words_first n = ap (λ (t : Bool). (t && part 1) && part 2) (sym (not-true x n) ∙ ex) ∙ parts

    module _ (n : not x ≡ false) (y : Bool) (ey : y ≡ every (mark_good o (record { values = []; marks = m })) 64 (64 * 1)) where
      beyond : (b : Bool) → y ≡ b → b && part 2 ≡ every (mark_good o (record { values = []; marks = m })) 192 0
      beyond b q = ap₂ (λ (s t : Bool). (s && t) && part 2) (sym (not-false x n) ∙ ex) (sym q ∙ ey) ∙ parts

      pub words_second : not y ≡ true → false ≡ every (mark_good o (record { values = []; marks = m })) 192 0
      words_second q = beyond false (not-true y q)

      pub words_third : not y ≡ false → (z : Bool) → z ≡ every (mark_good o (record { values = []; marks = m })) 64 (64 * 2) → z ≡ every (mark_good o (record { values = []; marks = m })) 192 0
      words_third q z ez = ez ∙ beyond true (not-false y q)

-- ---- and the lengths
module _ (o : Offer) (vs ms : List ℕ) where
  -- a mark is good by the words alone
  mark_same : (e : ℕ) → mark_good o (record { values = vs; marks = ms }) e ≡ mark_good o (record { values = []; marks = ms }) e
  unfolding mark_good
  mark_same e = refl

  good_as : (a b : Bool) → eqb (length vs) slot_bytes ≡ a → eqb (length ms) 6 ≡ b → good_cache o (record { values = vs; marks = ms }) ≡ a && (b && good_marks o ms)
  unfolding good_cache
  good_as a b p q =
      ap₂ (λ (x y : Bool). x && (y && every (mark_good o (record { values = vs; marks = ms })) 192 0)) p q
      ∙ ap (λ (t : Bool). a && (b && t)) (every_ext (mark_good o (record { values = vs; marks = ms })) (mark_good o (record { values = []; marks = ms })) 192 0 (λ e a b. mark_same e))

  pub short_values : (length vs ≡ slot_bytes → ⊥) → good_cache o (record { values = vs; marks = ms }) ≡ false
  short_values n = good_as false (eqb (length ms) 6) (ne_eqb _ _ n) refl

  pub short_marks : (length ms ≡ 6 → ⊥) → good_cache o (record { values = vs; marks = ms }) ≡ false
  short_marks n = good_as (eqb (length vs) slot_bytes) false refl (ne_eqb _ _ n) ∙ and_none (eqb (length vs) slot_bytes)
    where
      and_none : (t : Bool) → t && false ≡ false
      and_none true = refl
      and_none false = refl

  pub good_words : length vs ≡ 1820 → length ms ≡ 6 → good_cache o (record { values = vs; marks = ms }) ≡ good_marks o ms
  good_words l k = good_as true true (eq-eqb _ _ l) (eq-eqb _ _ k)

-- ---- what it says of the lengths
module _ (o : Offer) (vs ms : List ℕ) (x : Bool) (e : x ≡ good_cache o (record { values = vs; marks = ms })) (n : not x ≡ false) where
  lengths : (eqb (length vs) slot_bytes ≡ true) × (eqb (length ms) 6 ≡ true)
  unfolding good_cache
  lengths =
      let p = both (eqb (length vs) slot_bytes) (eqb (length ms) 6 && every (mark_good o (record { values = vs; marks = ms })) 192 0) (sym e ∙ not-false x n) in
      (p.0, (both (eqb (length ms) 6) (every (mark_good o (record { values = vs; marks = ms })) 192 0) p.1).0)

  pub values_long : length vs ≡ 1820
  values_long = eqb-true _ _ lengths.0

  pub marks_long : length ms ≡ 6
  marks_long = eqb-true _ _ lengths.1

-- ---- what a use permits
pub allowed_as : (o : Offer) (usage : Usage) (id : ℕ) (kind : Kind) (x : Bool) → x ≡ permits (record { usage = usage; capabilities = 0; offer = o }) id kind → kind ≡ kind_of id → x ≡ allowed o usage id
allowed_as o usage id kind x e q = e ∙ ap (permits (record { usage = usage; capabilities = 0; offer = o }) id) q
