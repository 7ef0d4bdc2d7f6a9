-- What the code reads from the store's bytes is what the header says. Assumes nothing.
use mathlib.Core.Path.{◌≡◌, refl, sym, ap, ap₂, ◌∙◌}
use mathlib.Core.Logic.{◌≢◌, ◌⊎◌, inl, inr}
use mathlib.Core.Bool.{false}
use mathlib.Core.List.{List}
use Prim.Native.Nat.{ℕ, ◌+◌, ◌-◌, ◌*◌, ◌/◌, ◌%◌, ◌^◌, ◌≤◌, ◌<◌}
use native.Mathlib.Omega.{arith}
use native.Mathlib.Nat.{mul-le-mul, mul-le-mul_left, mul-suc, mod-eq_of_lt, pow-le-pow_right, one-le-pow, mul-div-mul_right}
use native.Mathlib.Decide.{ℕ_discrete}
use mir.Syntax.{w8, w64}
use mir.Val.{Fits}
use lib.Dec.{eqb}
use lib.ListN.{get_or}
use lib.Pow.{split, pow-add}
use borrow.Author.Tests.{eq-eqb, ne_eqb, le-leb, lt-leb}
use Rattle.octets.specs.Bytes.{bytes_at, be}
use Rattle.octets.specs.Bits.{bit, bits}
use Rattle.octets.specs.Private.{swap2}
use Rattle.octets.proofs.Numbers.{be_part}
use Rattle.octets.proofs.Swaps.{swap2_same}
use Rattle.octets.proofs.Bits.{bits_lt, bits_byte, bits_be, bit_front, bits_front}
use Rattle.store.specs.declared.Layout.{Layout}
use Rattle.store.specs.Layout.{Sound}
use Rattle.store.specs.Header.{header, outside, offered, capabilities_of, live, word_at, word, is_taken, holds, head_good}

-- n fields of w bits: field i ends before the end
pub step : (w i n : ℕ) → i < n → w * i + w ≤ w * n
step w i n h = omega (arith, mul-le-mul_left w h, mul-suc w i)

bit_of_lem : (s : List ℕ) (j x : ℕ) → x ≡ get_or s (j / 8) 0 → x / 2 ^ (7 - j % 8) % 2 ≡ bit s j
unfolding bit
bit_of_lem s j x e = ap (λ (y : ℕ). y / 2 ^ (7 - j % 8) % 2) e

-- a byte's digit, shifted to the top
shifted : (x k : ℕ) → x < 256 → k < 8 → x * 2 ^ k % 2 ^ 64 / 128 ≡ x / 2 ^ (7 - k)
shifted x k h l =
    let i : k ≤ 7 = omega arith in
    let j : x ≤ 255 = omega arith in
    let p : 2 ^ k ≤ 2 ^ 7 = pow-le-pow_right {n = 2} (omega arith) i in
    let m : x * 2 ^ k ≤ 255 * 2 ^ 7 = mul-le-mul j p in
    let e : x * 2 ^ k % 2 ^ 64 ≡ x * 2 ^ k = mod-eq_of_lt (omega arith) in
    let q : 7 ≡ 7 - k + k = omega arith in
    let c : 2 ^ 7 ≡ 2 ^ (7 - k) * 2 ^ k = ap (λ (n : ℕ). 2 ^ n) q ∙ pow-add 2 (7 - k) k in
    ap (λ (y : ℕ). y / 128) e ∙ ap (λ (y : ℕ). x * 2 ^ k / y) c ∙ mul-div-mul_right x (2 ^ (7 - k)) (one-le-pow k 2 (omega arith))

module _ (l : Layout) (h : Sound l) (s : List ℕ) where
  pub caps_read : (x : ℕ) → x ≡ be s 0 8 → x ≡ capabilities_of (header l s)
  unfolding capabilities_of header
  caps_read x e = e ∙ sym (be_part s 0 l.guests_at 0 8 (omega (arith, h.head, h.words)))

  -- ---- a slot word. The one step that is not linear: it ends before the values.
  pub word_inside : (i : ℕ) → i < l.slots → word_at l i + l.width ≤ 8 * l.guests_at
  word_inside i k = omega (arith, step l.width i l.slots k, h.words)

  -- four bytes from its first one on are in the store, though not all in the header
  pub word_room : (i n : ℕ) → i < l.slots → n ≡ l.size → word_at l i / 8 + 4 ≤ n
  word_room i n k e = omega (arith, word_inside i k, h.guests_fit, h.whole)

  -- its place is a small number
  pub times_fits : (i : ℕ) → i < l.slots → Fits w64 (l.width * i)
  times_fits i k = omega (arith, word_inside i k, h.guests_fit, h.whole, h.small_size)

  pub place_fits : (i : ℕ) → i < l.slots → Fits w64 (word_at l i)
  place_fits i k = omega (arith, word_inside i k, h.guests_fit, h.whole, h.small_size)

  pub word_read : (i x : ℕ) → i < l.slots → x ≡ bits s (word_at l i) l.width → x ≡ word l (header l s) i
  unfolding word header
  word_read i x k e = e ∙ sym (bits_front s l.guests_at (word_at l i) l.width (word_inside i k))

  pub word_lt : (i x : ℕ) → x ≡ bits s (word_at l i) l.width → x < 4096 * l.ids
  word_lt i x e = omega (arith, bits_lt s (word_at l i) l.width, h.digits)

  -- as two bytes
  module _ (two : l.width ≡ 16) where
    pub pair_inside : (i : ℕ) → i < l.slots → l.words_at + 2 * i + 2 ≤ l.guests_at
    pair_inside i k =
        let e : l.width * l.slots ≡ 16 * l.slots = ap (λ (n : ℕ). n * l.slots) two in
        omega (arith, h.words)

    pub pair_room : (i n : ℕ) → i < l.slots → n ≡ l.size → l.words_at + 2 * i + 2 ≤ n
    pair_room i n k e = omega (arith, pair_inside i k, h.guests_fit, h.whole)

    module _ (b : (k : ℕ) → Fits w8 (get_or s k 0)) (i x : ℕ) (k : i < l.slots) (e : x ≡ be s (l.words_at + 2 * i) 2) where
      pair_bits : x ≡ bits s (word_at l i) l.width
      pair_bits =
          let a : 8 * l.words_at + 16 * i ≡ 8 * (l.words_at + 2 * i) = omega arith in
          e ∙ sym (ap (λ (n : ℕ). bits s (8 * l.words_at + n * i) n) two
          ∙ ap (λ (n : ℕ). bits s n 16) a ∙ bits_be s (l.words_at + 2 * i) 2 (λ j m. (b (l.words_at + 2 * i + j)).fits))

      pub pair_read : x ≡ word l (header l s) i
      pair_read = word_read i x k pair_bits

      pub pair_lt : x < 4096 * l.ids
      pair_lt = word_lt i x pair_bits

    -- the word as the machine reads it, against another
    pub pair_told : ((k : ℕ) → Fits w8 (get_or s k 0)) → (i w x p : ℕ) → i < l.slots → (x ≡ swap2 (be s (l.words_at + 2 * i) 2)) × (be s (l.words_at + 2 * i) 2 < 2 ^ 16) → w < 2 ^ 16 → p ≡ swap2 w
        → eqb x p ≡ holds l (header l s) w i
    unfolding holds
    pair_told b i w x p k e n q =
        let y = be s (l.words_at + 2 * i) 2 in
        swap2_same y w x p e.0 e.1 q n ∙ ap (λ (z : ℕ). eqb z w) (pair_read b i y k refl)

  -- ---- live
  module _ (g : ℕ) where
    pub live_none : (g < 1) ⊎ ((1 ≤ g) × (l.guests < g)) → false ≡ live l (header l s) g
    unfolding live
    live_none (inl k) = simp (lt-leb _ _ k)
    live_none (inr k) = simp (le-leb _ _ k.0, lt-leb _ _ k.1)

    live_bit : (x : ℕ) → 1 ≤ g → g ≤ l.guests → x ≡ get_or s ((63 + g) / 8) 0 → eqb (x / 2 ^ (7 - (63 + g) % 8) % 2) 1 ≡ live l (header l s) g
    unfolding live header
    live_bit x k m e =
        let p : 63 + g < 8 * l.guests_at = omega (arith, h.head, h.words, h.some_zeros) in
        simp (le-leb _ _ k, le-leb _ _ m) (ap (λ (y : ℕ). eqb y 1) (bit_of_lem s (63 + g) x e ∙ sym (bit_front s l.guests_at (63 + g) p)))

    pub live_read : (x : ℕ) → 1 ≤ g → g ≤ l.guests → x ≡ get_or s (8 + (g - 1) / 8) 0 → x < 256
        → eqb (x * 2 ^ ((g - 1) % 8) % 2 ^ 64 / 128 % 2) 1 ≡ live l (header l s) g
    live_read x k m e b =
        let p : 8 + (g - 1) / 8 ≡ (63 + g) / 8 = omega arith in
        let q : (g - 1) % 8 ≡ (63 + g) % 8 = omega arith in
        let r : (g - 1) % 8 < 8 = omega arith in
        ap (λ (y : ℕ). eqb (y % 2) 1) (shifted x ((g - 1) % 8) b r)
        ∙ ap (λ (n : ℕ). eqb (x / 2 ^ (7 - n) % 2) 1) q
        ∙ live_bit x k m (e ∙ ap (λ (n : ℕ). get_or s n 0) p)

    pub live_inside : (n : ℕ) → g ≤ l.guests → n ≡ l.size → 63 + g < 8 * n
    live_inside n m e = omega (arith, h.head, h.words, h.some_zeros, h.guests_fit, h.whole)

  -- ---- a mark
  pub taken_read : (a x : ℕ) → a < l.slots → x ≡ get_or s (l.taken_at + a / 8) 0 → x < 256 → eqb (x * 2 ^ (a % 8) % 2 ^ 64 / 128 % 2) 1 ≡ is_taken l (header l s) a
  unfolding is_taken header
  taken_read a x k e b =
      let j = 8 * l.taken_at + a in
      let p : l.taken_at + a / 8 ≡ (8 * l.taken_at + a) / 8 = omega arith in
      let q : a % 8 ≡ (8 * l.taken_at + a) % 8 = omega arith in
      let r : a % 8 < 8 = omega arith in
      let i : 8 * l.taken_at + a < 8 * l.guests_at = omega (arith, h.marks) in
      ap (λ (y : ℕ). eqb (y % 2) 1) (shifted x (a % 8) b r)
      ∙ ap (λ (n : ℕ). eqb (x / 2 ^ (7 - n) % 2) 1) q
      ∙ ap (λ (y : ℕ). eqb y 1) (bit_of_lem s j x (e ∙ ap (λ (n : ℕ). get_or s n 0) p) ∙ sym (bit_front s l.guests_at j i))

  pub taken_inside : (a n : ℕ) → a < l.slots → n ≡ l.size → 8 * l.taken_at + a < 8 * n
  taken_inside a n k e = omega (arith, h.marks, h.guests_fit, h.whole)

  -- ---- the head
  module _ (c : ℕ) (e : c ≡ be s 0 8) where
    pub head_other : (outside offered c ≡ 0 → ⊥) → false ≡ head_good l (header l s)
    unfolding head_good
    head_other n =
        let m : outside offered (capabilities_of (header l s)) ≡ 0 → ⊥ = λ z. n (ap (outside offered) (caps_read c e) ∙ z) in
        simp (ne_eqb _ _ m)

    pub head_zeros : (x : ℕ) → outside offered c ≡ 0 → x ≡ get_or s ((64 + l.guests) / 8) 0 → x < 256 → eqb x (x / 2 ^ l.zeros * 2 ^ l.zeros % 2 ^ 64) ≡ head_good l (header l s)
    unfolding head_good header
    head_zeros x z q m =
        let z' : outside offered (capabilities_of (bytes_at s 0 l.guests_at)) ≡ 0 = ap (outside offered) (sym (caps_read c e)) ∙ z in
        let p = (64 + l.guests) / 8 in
        let a : 64 + l.guests ≡ 8 * p + (8 - l.zeros) = omega (arith, h.whole_bytes, h.some_zeros, h.few_zeros) in
        let b : 8 - (8 - l.zeros) - l.zeros ≡ 0 = omega (arith, h.few_zeros) in
        let o : 64 + l.guests + l.zeros ≤ 8 * l.guests_at = omega (arith, h.head, h.words) in
        let d : bits (bytes_at s 0 l.guests_at) (64 + l.guests) l.zeros ≡ x / 2 ^ 0 % 2 ^ l.zeros =
        bits_front s l.guests_at (64 + l.guests) l.zeros o ∙ ap (λ (n : ℕ). bits s n l.zeros) a ∙ bits_byte s p (8 - l.zeros) l.zeros (omega (arith, h.few_zeros))
        ∙ ap₂ (λ (y n : ℕ). y / 2 ^ n % 2 ^ l.zeros) (sym q) b in
        let f : x / 2 ^ 0 ≡ x = omega arith in
        rest x l.zeros m ∙ sym (simp (eq-eqb _ _ z') (ap (λ (y : ℕ). eqb y 0) (d ∙ ap (λ (y : ℕ). y % 2 ^ l.zeros) f)))
      where
        rest : (x n : ℕ) → x < 256 → eqb x (x / 2 ^ n * 2 ^ n % 2 ^ 64) ≡ eqb (x % 2 ^ n) 0
        rest x n m =
            let i : x / 2 ^ n * 2 ^ n + x % 2 ^ n ≡ x = split x n in
            let j : x / 2 ^ n * 2 ^ n % 2 ^ 64 ≡ x / 2 ^ n * 2 ^ n = mod-eq_of_lt (omega arith) in
            ap (λ (y : ℕ). eqb x y) j ∙ go i (ℕ_discrete (x % 2 ^ n) 0)
          where
            go : x / 2 ^ n * 2 ^ n + x % 2 ^ n ≡ x → Dec (x % 2 ^ n ≡ 0) → eqb x (x / 2 ^ n * 2 ^ n) ≡ eqb (x % 2 ^ n) 0
            go i (yes u) = let v : x ≡ x / 2 ^ n * 2 ^ n = omega arith in eq-eqb _ _ v ∙ sym (eq-eqb _ _ u)
            go i (no u) = let v : x ≢ x / 2 ^ n * 2 ^ n = omega arith in ne_eqb _ _ v ∙ sym (ne_eqb _ _ u)

    pub zeros_byte : (64 + l.guests) / 8 < l.guests_at
    zeros_byte = omega (arith, h.head, h.words, h.some_zeros)
