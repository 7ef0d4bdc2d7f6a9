-- Marks by words: the first mark that is left in a word is its leading zeros, and a word's marks are counted by its ones. Assumes nothing.
use mathlib.Core.Path.{◌≡◌, sym, ap, ap₂, ◌∙◌, subst}
use mathlib.Core.Bool.{Bool, false, cond}
use mathlib.Core.Logic.{◌⊎◌, inl, inr}
use mathlib.Core.List.{List}
use Prim.Native.Nat.{ℕ, zero, suc, ◌+◌, ◌-◌, ◌*◌, ◌/◌, ◌%◌, ◌^◌, ◌≤◌, ◌<◌}
use native.Mathlib.Nat.{mod-lt, mod-one, mod-eq_of_lt, div-eq_of_lt, eq-zero-or-pos, pow-suc, one-mul, zero-mul, zero-add}
use native.Mathlib.Numerals.{add-one}
use native.Mathlib.Decide.{dec_lt}
use native.Mathlib.Omega.{arith}
use lib.Dec.{eqb, lit<}
use lib.Pow.{pow_pos, pow_mono, high, low, field, mod-mod-pow}
use lib.Bits.{bit_and, and_le_l, bit_xor, xor_block, xor_self, xor_zero_r}
use lib.Count.{count_leading_zeros, leading_le, leading_top, ones, ones-le}
use lib.ListN.{length, get_or, get_or-eq_default}
use borrow.Author.Tests.{eq-eqb}
use Rattle.store.specs.Search.{first, tally}
use Rattle.store.proofs.Search.{found_first, tally_ext}
use Rattle.l1.specs.declared.Mark.{Mark}
use Rattle.l1.specs.Marks.{is_marked}
use Rattle.std.specs.Prelude.{Option, Some, None}
use Rattle.l1.specs.Private.{is_changed, behind, at_of, top_mark, MarkFrom}
use Rattle.l1.proofs.Masks.{ones_mask, changed_mask}
use Rattle.l1.proofs.Marking.{one_shifted}

-- digit j of a word of 64, from the most significant
abbrev digit : ℕ → ℕ → ℕ
digit w j = w / 2 ^ (63 - j) % 2

-- ---- what is left of a word from digit k on: its digits are the word's
left_digit : (w k j : ℕ) → k ≤ j → j < 64 → digit (w % 2 ^ (64 - k)) j ≡ digit w j
left_digit w k j a b =
    let e : suc (j - k) + (63 - j) ≡ 64 - k = omega arith in
    ap (λ (n : ℕ). w % 2 ^ n / 2 ^ (63 - j) % 2) (sym e) ∙ ap (λ (n : ℕ). n % 2) (field w (suc (j - k)) (63 - j))
    ∙ ap (λ (n : ℕ). w / 2 ^ (63 - j) % 2 ^ n % 2) (sym (add-one (j - k))) ∙ mod-mod-pow (w / 2 ^ (63 - j)) (j - k) 1

low_digit : (n j m : ℕ) → n < 2 ^ m → m ≤ 63 - j → digit n j ≡ 0
low_digit n j m h l = ap (λ (q : ℕ). q % 2) (div-eq_of_lt (below (pow_mono l)))
  where
    below : 2 ^ m ≤ 2 ^ (63 - j) → n < 2 ^ (63 - j)
    below p = omega arith

top_digit : (n j : ℕ) → 2 ^ j ≤ n → n < 2 ^ suc j → n / 2 ^ j % 2 ≡ 1
top_digit n j a b =
    let e : n ≡ 1 * 2 ^ j + (n - 2 ^ j) = omega arith in
    ap (λ (m : ℕ). m / 2 ^ j % 2) e ∙ ap (λ (m : ℕ). m % 2) (high 1 j (omega (arith, pow-suc 2 j)))

-- the first digit that is left
record Top (w k r : ℕ) : Type 0 where
  from : k ≤ r
  within : r < 64
  set : digit w r ≡ 1
  clear : (j : ℕ) → k ≤ j → j < r → digit w j ≡ 0

top_of : (w k : ℕ) → k < 64 → 0 < w % 2 ^ (64 - k) → Top w k (count_leading_zeros 64 (w % 2 ^ (64 - k)))
top_of w k h p =
    let l = w % 2 ^ (64 - k) in
    let small : l < 2 ^ (64 - k) = mod-lt w (pow_pos (64 - k)) in
    let wide : 2 ^ (64 - k) ≤ 2 ^ 64 = pow_mono {i = 64 - k} {j = 64} (omega arith) in
    let t = leading_top 64 l p (omega arith) in
    let r = count_leading_zeros 64 l in
    let q : 63 - r ≡ t.0 = omega (arith, t.1) in
    let low : k ≤ r = go (dec_lt r k) t small in
    record {
      from = low;
      within = omega (arith, t.1);
      set = sym (left_digit w k r low (omega (arith, t.1))) ∙ ap (λ (n : ℕ). l / 2 ^ n % 2) q ∙ top_digit l t.0 t.2 t.3;
      clear = λ j a b. sym (left_digit w k j a (omega (arith, t.1))) ∙ low_digit l j (suc t.0) t.3 (omega (arith, t.1));
    }
  where
    go : Dec (count_leading_zeros 64 (w % 2 ^ (64 - k)) < k) → ((j : ℕ) × (count_leading_zeros 64 (w % 2 ^ (64 - k)) + suc j ≡ 64) × (2 ^ j ≤ w % 2 ^ (64 - k)) × (w % 2 ^ (64 - k) < 2 ^ suc j)) → w % 2 ^ (64 - k) < 2 ^ (64 - k)
        → k ≤ count_leading_zeros 64 (w % 2 ^ (64 - k))
    go (no n) t s = omega arith
    go (yes n) t s =
        let m : 2 ^ (64 - k) ≤ 2 ^ t.0 = pow_mono {i = 64 - k} {j = t.0} (omega (arith, t.1)) in
        absurd (omega (arith, t.2))

none_left : (w k j : ℕ) → k < 64 → w % 2 ^ (64 - k) ≡ 0 → k ≤ j → j < 64 → digit w j ≡ 0
none_left w k j h z a b = sym (left_digit w k j a b) ∙ ap (λ (n : ℕ). digit n j) z ∙ low_digit 0 j 0 (lit< tt) (omega arith)

-- ---- the marks of word q from digit k on
mark_in : (m : List ℕ) (q j : ℕ) → 64 * q ≤ j → j < 64 * q + 64 → is_marked m j ≡ eqb (digit (get_or m q 0) (j - 64 * q)) 1
unfolding is_marked
mark_in m q j a b =
    let x : j / 64 ≡ q = omega arith in
    let y : j % 64 ≡ j - 64 * q = omega arith in
    ap₂ (λ (u v : ℕ). eqb (get_or m u 0 / 2 ^ (63 - v) % 2) 1) x y

-- so many that lack p are passed
pub first_skip : (p : ℕ → Bool) (d n i : ℕ) → d ≤ n → ((j : ℕ) → i ≤ j → j < i + d → p j ≡ false) → first p n i ≡ first p (n - d) (i + d)
unfolding first
first_skip p zero n i h f =
    let a : n ≡ n - 0 = omega arith in
    let b : i ≡ i + 0 = omega arith in
    ap₂ (first p) a b
first_skip p (suc d) zero i h f = absurd (omega arith)
first_skip p (suc d) (suc n) i h f =
    let x : n - d ≡ suc n - suc d = omega arith in
    let y : i + 1 + d ≡ i + suc d = omega arith in
    ap (λ (b : Bool). cond b i (first p n (i + 1))) (f i (omega arith) (omega arith)) ∙ first_skip p d n (i + 1) (omega arith) (λ j a b. f j (omega arith) (omega arith)) ∙ ap₂ (first p) x y

module _ (m : List ℕ) (q k left : ℕ) (hq : q < 6) (hk : k < 64) (e : left ≡ get_or m q 0 % 2 ^ (64 - k)) where
  pub word_hit : (left ≡ 0 → ⊥) → MarkFrom m (64 * q + k) (Some (top_mark (64 * q) left))
  word_hit n =
      record {
        at = sym (found_first (is_marked m) (384 - (64 * q + k)) (64 * q + k) (64 * q + z) (record {
          has = mark_in m q (64 * q + z) (omega arith) (omega (arith, top.within)) ∙ eq-eqb _ _ (ap (digit word) back ∙ top.set);
          above = omega (arith, top.from);
          below = omega (arith, top.within);
          none = λ j a b. mark_in m q j (omega arith) (omega (arith, top.within)) ∙ ap (λ (x : ℕ). eqb x 1) (top.clear (j - 64 * q) (omega arith) (omega arith));
        }));
        left = rest;
        above = omega (arith, top.from);
        within = omega (arith, top.within);
        there = λ y s. omega (arith, top.within, ap at_of s);
      }
    where
      word : ℕ
      word = get_or m q 0

      z : ℕ
      z = count_leading_zeros 64 left

      some : (left ≡ 0) ⊎ (0 < left) → 0 < left
      some (inl x) = absurd (n x)
      some (inr p) = p

      top : Top word k z
      top = subst (λ (l : ℕ). Top word k (count_leading_zeros 64 l)) (sym e) (top_of word k hk (subst (λ (l : ℕ). 0 < l) e (some (eq-zero-or-pos left))))

      back : 64 * q + z - 64 * q ≡ z
      back = omega arith

      rest : left % 2 ^ (63 - z) ≡ behind m (64 * q + z)
      rest =
          let s : z + 1 - k + (63 - z) ≡ 64 - k = omega (arith, top.from, top.within) in
          let x : q ≡ (64 * q + z) / 64 = omega (arith, top.within) in
          let y : z ≡ (64 * q + z) % 64 = omega (arith, top.within) in
          ap (λ (l : ℕ). l % 2 ^ (63 - z)) (e ∙ ap (λ (a : ℕ). word % 2 ^ a) (sym s)) ∙ mod-mod-pow word (z + 1 - k) (63 - z)
          ∙ ap₂ (λ (u v : ℕ). get_or m u 0 % 2 ^ (63 - v)) x y

  word_miss : left ≡ 0 → first (is_marked m) (384 - (64 * q + k)) (64 * q + k) ≡ first (is_marked m) (384 - 64 * (q + 1)) (64 * (q + 1))
  word_miss n =
      let x : 384 - (64 * q + k) - (64 - k) ≡ 384 - 64 * (q + 1) = omega arith in
      let y : 64 * q + k + (64 - k) ≡ 64 * (q + 1) = omega arith in
      first_skip (is_marked m) (64 - k) (384 - (64 * q + k)) (64 * q + k) (omega arith)
      (λ j a b. mark_in m q j (omega arith) (omega arith) ∙ ap (λ (x : ℕ). eqb x 1) (none_left (get_or m q 0) k (j - 64 * q) hk (sym e ∙ n) (omega arith) (omega arith)))
      ∙ ap₂ (first (is_marked m)) x y

-- ---- the search from word to word
module _ (m : List ℕ) (k i : ℕ) (same : first (is_marked m) (384 - 64 * k) (64 * k) ≡ first (is_marked m) (384 - 64 * i) (64 * i)) where
  whole : get_or m i 0 < 2 ^ 64 → get_or m i 0 ≡ get_or m i 0 % 2 ^ (64 - 0)
  whole h = sym (mod-eq_of_lt h)

  start : 64 * i + 0 ≡ 64 * i
  start = omega arith

  from_start : (x : Option Mark) → k ≤ i → MarkFrom m (64 * i) x → MarkFrom m (64 * k) x
  from_start x h y = record { at = y.at ∙ sym same; left = y.left; above = omega (arith, y.above); within = y.within; there = y.there }

  pub from_hit : (x : Mark) → x ≡ top_mark (64 * i) (get_or m i 0) → k ≤ i → i < 6 → get_or m i 0 < 2 ^ 64 → (get_or m i 0 ≡ 0 → ⊥) → MarkFrom m (64 * k) (Some x)
  from_hit x e h l f n =
      from_start (Some x) h (subst (λ (y : Mark). MarkFrom m (64 * i) (Some y)) (sym e) (subst (λ (j : ℕ). MarkFrom m j (Some (top_mark (64 * i) (get_or m i 0)))) start (word_hit m i 0 (get_or m i 0) l (lit< tt) (whole f) n)))

  pub from_miss : i < 6 → get_or m i 0 < 2 ^ 64 → get_or m i 0 ≡ 0 → first (is_marked m) (384 - 64 * k) (64 * k) ≡ first (is_marked m) (384 - 64 * (i + 1)) (64 * (i + 1))
  from_miss l f n = same ∙ ap (λ (j : ℕ). first (is_marked m) (384 - j) j) (sym start) ∙ word_miss m i 0 (get_or m i 0) l (lit< tt) (whole f) n

  pub from_end : k ≤ i → i ≤ 6 → 6 ≤ i → length m ≡ 6 → MarkFrom m (64 * k) None
  unfolding first
  from_end h a b l =
      let q : i ≡ 6 = omega arith in
      from_start None h
      (record { at = sym (ap (λ (j : ℕ). first (is_marked m) (384 - 64 * j) (64 * j)) q); left = sym (ap (λ (n : ℕ). n % 2 ^ 63) (past m l)); above = omega arith; within = omega arith; there = λ y s. absurd (cc s) })
    where
      past : (m : List ℕ) → length m ≡ 6 → get_or m 6 0 ≡ 0
      past m l = get_or-eq_default m 0 (omega arith)

-- ---- and behind a mark
module _ (m : List ℕ) (x : Mark) (h : x.at < 384) (e : x.left ≡ behind m x.at) where
  at_word : x.at - x.at % 64 ≡ 64 * (x.at / 64)
  at_word = omega arith

  pub next_hit : (y : Mark) → y ≡ top_mark (x.at - x.at % 64) x.left → (x.left ≡ 0 → ⊥) → MarkFrom m (x.at + 1) (Some y)
  next_hit y q n = go (dec_lt (x.at % 64) 63)
    where
      go : Dec (x.at % 64 < 63) → MarkFrom m (x.at + 1) (Some y)
      go (yes l) =
          let a : 64 - (x.at % 64 + 1) ≡ 63 - x.at % 64 = omega arith in
          let b : 64 * (x.at / 64) + (x.at % 64 + 1) ≡ x.at + 1 = omega arith in
          let f : x.left ≡ get_or m (x.at / 64) 0 % 2 ^ (64 - (x.at % 64 + 1)) = e ∙ ap (λ (j : ℕ). get_or m (x.at / 64) 0 % 2 ^ j) (sym a) in
          subst (λ (j : ℕ). MarkFrom m j (Some y)) b (subst (λ (z : Mark). MarkFrom m (64 * (x.at / 64) + (x.at % 64 + 1)) (Some z)) (sym (q ∙ ap (λ (j : ℕ). top_mark j x.left) at_word)) (word_hit m (x.at / 64) (x.at % 64 + 1) x.left (omega arith) (omega arith) f n))
      go (no l) =
          let a : 63 - x.at % 64 ≡ 0 = omega arith in
          absurd (n (e ∙ ap (λ (j : ℕ). get_or m (x.at / 64) 0 % 2 ^ j) a ∙ mod-one (get_or m (x.at / 64) 0)))

  pub next_miss : (y : Option Mark) → MarkFrom m (64 * (x.at / 64 + 1)) y → x.left ≡ 0 → MarkFrom m (x.at + 1) y
  next_miss y f n = record { at = f.at ∙ sym (go (dec_lt (x.at % 64) 63)); left = f.left; above = omega (arith, f.above); within = f.within; there = f.there }
    where
      go : Dec (x.at % 64 < 63) → first (is_marked m) (384 - (x.at + 1)) (x.at + 1) ≡ first (is_marked m) (384 - 64 * (x.at / 64 + 1)) (64 * (x.at / 64 + 1))
      go (yes l) =
          let a : 64 - (x.at % 64 + 1) ≡ 63 - x.at % 64 = omega arith in
          let b : x.at + 1 ≡ 64 * (x.at / 64) + (x.at % 64 + 1) = omega arith in
          ap (λ (j : ℕ). first (is_marked m) (384 - j) j) b
          ∙ word_miss m (x.at / 64) (x.at % 64 + 1) x.left (omega arith) (omega arith) (e ∙ ap (λ (j : ℕ). get_or m (x.at / 64) 0 % 2 ^ j) (sym a)) n
      go (no l) = let b : x.at + 1 ≡ 64 * (x.at / 64 + 1) = omega arith in ap (λ (j : ℕ). first (is_marked m) (384 - j) j) b

-- ---- the marks of a word, counted
pub tally_append : (p : ℕ → Bool) (a b : ℕ) → tally p (a + b) ≡ tally p a + tally (λ e. p (a + e)) b
unfolding tally
tally_append p a zero = ap (tally p) (zero_right a) ∙ omega arith
  where
    zero_right : (a : ℕ) → a + 0 ≡ a
    zero_right a = omega arith
tally_append p a (suc b) =
    let e : a + suc b ≡ suc (a + b) = omega arith in
    let h = tally_append p a b in
    ap (tally p) e ∙ omega (arith, h)

-- of the 192, word by word
pub tally_words : (p : ℕ → Bool) → tally p 192 ≡ tally (λ e. p (64 * 0 + e)) 64 + tally (λ e. p (64 * 1 + e)) 64 + tally (λ e. p (64 * 2 + e)) 64
tally_words p =
    let u : tally p 192 ≡ tally p 128 + tally (λ e. p (64 * 2 + e)) 64 = tally_append p 128 64 in
    let v : tally p 128 ≡ tally p 64 + tally (λ e. p (64 * 1 + e)) 64 = tally_append p 64 64 in
    let w : tally p 64 ≡ tally (λ e. p (64 * 0 + e)) 64 = tally_ext p (λ e. p (64 * 0 + e)) 64 (λ e l. ap p (start e)) in
    u ∙ ap (λ (n : ℕ). n + tally (λ e. p (64 * 2 + e)) 64) (v ∙ ap (λ (n : ℕ). n + tally (λ e. p (64 * 1 + e)) 64) w)
  where
    start : (e : ℕ) → e ≡ 64 * 0 + e
    start e = omega arith

word_count : (m : List ℕ) (k : ℕ) → get_or m (3 + k) 0 < 2 ^ 64 → ones (get_or m (3 + k) 0) ≡ tally (λ e. is_changed m (64 * k + e)) 64
word_count m k h = sym (ap ones (changed_mask m k h)) ∙ ones_mask (is_changed m) 64 (64 * k)

pub count_words : (m : List ℕ) → get_or m 3 0 < 2 ^ 64 → get_or m 4 0 < 2 ^ 64 → get_or m 5 0 < 2 ^ 64 → ones (get_or m 3 0) + ones (get_or m 4 0) + ones (get_or m 5 0) ≡ tally (is_changed m) 192
count_words m a b c =
    ap₂ (λ (i j : ℕ). i + j) (ap₂ (λ (i j : ℕ). i + j) (word_count m 0 a) (word_count m 1 b)) (word_count m 2 c) ∙ sym (tally_words (is_changed m))

-- ---- the code's sums fit
pub zeros_fit : (n : ℕ) → count_leading_zeros 64 n < 2 ^ 64
zeros_fit n = omega (arith, leading_le 64 n)

pub place_fits : (start n : ℕ) → start < 384 → start + count_leading_zeros 64 n < 2 ^ 64
place_fits start n h = omega (arith, leading_le 64 n)

module _ (left : ℕ) (h : left < 2 ^ 64) (p : 0 < left) where
  pub zeros_below : count_leading_zeros 64 left ≤ 63
  zeros_below = let t = leading_top 64 left p h in omega (arith, t.1)

  -- what is left without its first mark
  pub top_cleared : (start : ℕ) → record { at = start + count_leading_zeros 64 left; left = bit_xor left (1 * 2 ^ (63 - count_leading_zeros 64 left) % 2 ^ 64) } ≡ top_mark start left
  top_cleared start = go (leading_top 64 left p h)
    where
      none : (n j : ℕ) → 0 * 2 ^ j + n ≡ n
      none n j = ap (λ (m : ℕ). m + n) (zero-mul (2 ^ j)) ∙ zero-add n

      go : ((j : ℕ) × (count_leading_zeros 64 left + suc j ≡ 64) × (2 ^ j ≤ left) × (left < 2 ^ suc j))
          → record { at = start + count_leading_zeros 64 left; left = bit_xor left (1 * 2 ^ (63 - count_leading_zeros 64 left) % 2 ^ 64) } ≡ top_mark start left
      go (j, z, a, b) =
          let q : 63 - count_leading_zeros 64 left ≡ j = omega arith in
          let r : left - 2 ^ j < 2 ^ j = omega (arith, pow-suc 2 j) in
          let s : left ≡ 1 * 2 ^ j + (left - 2 ^ j) = omega arith in
          let t : 1 * 2 ^ j ≡ 1 * 2 ^ j + 0 = omega arith in
          ap (λ (n : ℕ). record { at = start + count_leading_zeros 64 left; left = n })
          (ap (λ (n : ℕ). bit_xor left (1 * 2 ^ n % 2 ^ 64)) q ∙ ap (bit_xor left) (one_shifted j (omega arith) ∙ sym (one-mul (2 ^ j)))
          ∙ ap₂ bit_xor s t ∙ xor_block j 1 1 (left - 2 ^ j) 0 r (pow_pos j) ∙ ap₂ (λ (x y : ℕ). x * 2 ^ j + y) (xor_self 1) (xor_zero_r (left - 2 ^ j)) ∙ none (left - 2 ^ j) j
          ∙ sym (ap (λ (n : ℕ). left % 2 ^ n) q ∙ ap (λ (n : ℕ). n % 2 ^ j) s ∙ low 1 j r))

pub marks_few : (w x : ℕ) → w < 2 ^ 64 → ones (bit_and w x) ≤ 64
marks_few w x h = ones-le 64 (bit_and w x) (within (and_le_l w x))
  where
    within : bit_and w x ≤ w → bit_and w x < 2 ^ 64
    within l = omega arith

pub ones_few : (m : List ℕ) (i : ℕ) → get_or m i 0 < 2 ^ 64 → ones (get_or m i 0) ≤ 64
ones_few m i h = ones-le 64 (get_or m i 0) h
