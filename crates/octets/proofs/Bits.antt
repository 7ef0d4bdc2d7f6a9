-- The laws of bit fields. Nothing else opens them. Assumes nothing.
use mathlib.Core.Path.{◌≡◌, refl, sym, ap, ap₂, ◌∙◌}
use mathlib.Core.Logic.{◌≢◌}
use Prim.Native.Nat.{ℕ, zero, suc, ◌+◌, ◌-◌, ◌*◌, ◌/◌, ◌%◌, ◌^◌, ◌≤◌, ◌<◌}
use native.Mathlib.Omega.{arith}
use native.Mathlib.Nat.{mod-lt, mod-eq_of_lt, div-eq_of_lt, add-mul, mul_assoc, pow-suc, zero-add}
use native.Mathlib.Numerals.{add-one, one-add}
use native.Mathlib.Decide.{dec_lt, ℕ_discrete}
use mathlib.Core.List.{List, [], ◌∷◌}
use lib.Dec.{lit<, lit≤}
use lib.ListN.{length, get_or, set, length-set}
use lib.Seq.{get_or-set_same, get_or-set_other, set-get_or, set-set, set_out}
use lib.Pow.{pow_pos, pow-add, shr-shr, mod-pow-add, mod-mod-pow, field, high, low, split}
use Rattle.octets.specs.Bytes.{bytes_at, put, be, digits, zeros, Clear, left, right}
use Rattle.octets.specs.Bits.{bit, bits, ins, set_bit, put_bits}
use Rattle.octets.proofs.Bytes.{length_put, put_nil, put_one, put_append, put_inside, get_or_bytes_at, get_or_put_other, get_or_zeros}
use Rattle.octets.proofs.Numbers.{length_digits, be_ext}

-- ---- reading
pub bit_lt : (s : List ℕ) (j : ℕ) → bit s j < 2
unfolding bit
bit_lt s j = mod-lt (get_or s (j / 8) 0 / 2 ^ (7 - j % 8)) (lit< tt)

pub bits_ext : (s t : List ℕ) (a n : ℕ) → ((k : ℕ) → k < n → bit s (a + k) ≡ bit t (a + k)) → bits s a n ≡ bits t a n
unfolding bits
bits_ext s t a zero h = refl
bits_ext s t a (suc n) h = ap₂ (λ (x y : ℕ). x * 2 + y) (bits_ext s t a n (λ k l. h k (omega arith))) (h n (omega arith))

pub bits_none : (s : List ℕ) (a n : ℕ) → ((k : ℕ) → k < n → bit s (a + k) ≡ 0) → bits s a n ≡ 0
unfolding bits
bits_none s a zero h = refl
bits_none s a (suc n) h =
    let x : bits s a n ≡ 0 = bits_none s a n (λ k l. h k (omega arith)) in
    let y : bit s (a + n) ≡ 0 = h n (omega arith) in
    omega arith

pub bit_zeros : (n j : ℕ) → bit (zeros n) j ≡ 0
unfolding bit
bit_zeros n j =
    ap (λ (x : ℕ). x / 2 ^ (7 - j % 8) % 2) (get_or_zeros n (j / 8)) ∙ ap (λ (x : ℕ). x % 2) (div-eq_of_lt (pow_pos (7 - j % 8)))

pub bits_lt : (s : List ℕ) (a n : ℕ) → bits s a n < 2 ^ n
unfolding bits
bits_lt s a zero = lit< tt
bits_lt s a (suc n) = omega (arith, bits_lt s a n, bit_lt s (a + n), pow-suc 2 n)

pub bits_one : (s : List ℕ) (a : ℕ) → bits s a 1 ≡ bit s a
unfolding bits
bits_one s a = let e : a + 0 ≡ a = omega arith in rw e (omega arith)

-- the step of a number of digits
digits_suc : (y n : ℕ) → y % 2 ^ suc n ≡ (y / 2 % 2 ^ n) * 2 + y % 2
digits_suc y n = ap (λ (m : ℕ). y % 2 ^ m) (sym (add-one n)) ∙ mod-pow-add y n 1

-- within a byte
pub bits_byte : (s : List ℕ) (p r n : ℕ) → r + n ≤ 8 → bits s (8 * p + r) n ≡ get_or s p 0 / 2 ^ (8 - r - n) % 2 ^ n
unfolding bits bit
bits_byte s p r zero h = omega arith
bits_byte s p r (suc n) h =
    let x = get_or s p 0 in
    let k = 8 - r - suc n in
    let e₁ : (8 * p + r + n) / 8 ≡ p = omega arith in
    let e₂ : 7 - (8 * p + r + n) % 8 ≡ 8 - r - suc n = omega arith in
    let e₃ : 8 - r - n ≡ 8 - r - suc n + 1 = omega arith in
    let ih : bits s (8 * p + r) n ≡ x / 2 ^ k / 2 % 2 ^ n = bits_byte s p r n (omega arith) ∙ ap (λ (m : ℕ). x / 2 ^ m % 2 ^ n) e₃ ∙ ap (λ (m : ℕ). m % 2 ^ n) (sym (shr-shr x k 1)) in
    ap₂ (λ (u v : ℕ). u * 2 + v) ih (ap₂ (λ (i m : ℕ). get_or s i 0 / 2 ^ m % 2) e₁ e₂) ∙ sym (digits_suc (x / 2 ^ k) n)

-- two fields, one behind the other
pub bits_add : (s : List ℕ) (a n m : ℕ) → bits s a (n + m) ≡ bits s a n * 2 ^ m + bits s (a + n) m
unfolding bits
bits_add s a n zero = let e : n + 0 ≡ n = omega arith in rw e (omega arith)
bits_add s a n (suc m) =
    let e : a + (n + m) ≡ a + n + m = omega arith in
    let f : n + suc m ≡ suc (n + m) = omega arith in
    let ih = bits_add s a n m in
    let g : bits s a n * 2 ^ suc m ≡ bits s a n * 2 ^ m * 2 = ap (λ (z : ℕ). bits s a n * z) (pow-suc 2 m) ∙ sym (mul_assoc (bits s a n) (2 ^ m) 2) in
    ap (bits s a) f ∙ ap₂ (λ (x y : ℕ). x * 2 + y) ih (ap (bit s) e) ∙ omega (arith, g)

-- a field within a field: r bits before it, w in it, t behind it
pub bits_within : (s : List ℕ) (a r w t : ℕ) → bits s a (r + (w + t)) / 2 ^ t % 2 ^ w ≡ bits s (a + r) w
bits_within s a r w t =
    let e : r + (w + t) ≡ r + w + t = omega arith in
    ap (λ (n : ℕ). bits s a n / 2 ^ t % 2 ^ w) e
    ∙ ap (λ (x : ℕ). x / 2 ^ t % 2 ^ w) (bits_add s a (r + w) t)
    ∙ ap (λ (x : ℕ). x % 2 ^ w) (high (bits s a (r + w)) t (bits_lt s (a + (r + w)) t))
    ∙ ap (λ (x : ℕ). x % 2 ^ w) (bits_add s a r w)
    ∙ low (bits s a r) w (bits_lt s (a + r) w)

-- ---- a number with other digits
ins_shape : (x k n v : ℕ) → ins x k n v ≡ (x / 2 ^ (k + n) * 2 ^ n + v % 2 ^ n) * 2 ^ k + x % 2 ^ k
unfolding ins
ins_shape x k n v =
    let c : 2 ^ (k + n) ≡ 2 ^ n * 2 ^ k = let e : k + n ≡ n + k = omega arith in ap (λ (m : ℕ). 2 ^ m) e ∙ pow-add 2 n k in
    let a : x / 2 ^ (k + n) * 2 ^ (k + n) ≡ x / 2 ^ (k + n) * 2 ^ n * 2 ^ k = ap (λ (z : ℕ). x / 2 ^ (k + n) * z) c ∙ sym (mul_assoc (x / 2 ^ (k + n)) (2 ^ n) (2 ^ k)) in
    ap (λ (z : ℕ). z + v % 2 ^ n * 2 ^ k + x % 2 ^ k) a ∙ ap (λ (z : ℕ). z + x % 2 ^ k) (sym (add-mul (x / 2 ^ (k + n) * 2 ^ n) (v % 2 ^ n) (2 ^ k)))

ins_shr : (x k n v : ℕ) → ins x k n v / 2 ^ k ≡ x / 2 ^ (k + n) * 2 ^ n + v % 2 ^ n
ins_shr x k n v = ap (λ (z : ℕ). z / 2 ^ k) (ins_shape x k n v) ∙ high (x / 2 ^ (k + n) * 2 ^ n + v % 2 ^ n) k (mod-lt x (pow_pos k))

pub ins_low : (x k n v : ℕ) → ins x k n v % 2 ^ k ≡ x % 2 ^ k
ins_low x k n v = ap (λ (z : ℕ). z % 2 ^ k) (ins_shape x k n v) ∙ low (x / 2 ^ (k + n) * 2 ^ n + v % 2 ^ n) k (mod-lt x (pow_pos k))

pub ins_mid : (x k n v : ℕ) → ins x k n v / 2 ^ k % 2 ^ n ≡ v % 2 ^ n
ins_mid x k n v = ap (λ (z : ℕ). z % 2 ^ n) (ins_shr x k n v) ∙ low (x / 2 ^ (k + n)) n (mod-lt v (pow_pos n))

pub ins_high : (x k n v : ℕ) → ins x k n v / 2 ^ (k + n) ≡ x / 2 ^ (k + n)
ins_high x k n v = sym (shr-shr (ins x k n v) k n) ∙ ap (λ (z : ℕ). z / 2 ^ n) (ins_shr x k n v) ∙ high (x / 2 ^ (k + n)) n (mod-lt v (pow_pos n))

-- the digits that it has
ins_same : (x k n v : ℕ) → v % 2 ^ n ≡ x / 2 ^ k % 2 ^ n → ins x k n v ≡ x
ins_same x k n v e =
    let a : x / 2 ^ (k + n) * 2 ^ n + v % 2 ^ n ≡ x / 2 ^ k = ap₂ (λ (y z : ℕ). y * 2 ^ n + z) (sym (shr-shr x k n)) e ∙ split (x / 2 ^ k) n in
    ins_shape x k n v ∙ ap (λ (z : ℕ). z * 2 ^ k + x % 2 ^ k) a ∙ split x k

pub ins_lt : (x k n v m : ℕ) → x < 2 ^ m → k + n ≤ m → ins x k n v < 2 ^ m
ins_lt x k n v m h l =
    let y = ins x k n v in
    let e : k + n + (m - (k + n)) ≡ m = omega arith in
    let above : (z : ℕ) → z / 2 ^ (k + n) / 2 ^ (m - (k + n)) ≡ z / 2 ^ m = λ z. shr-shr z (k + n) (m - (k + n)) ∙ ap (λ (i : ℕ). z / 2 ^ i) e in
    let none : ins x k n v / 2 ^ m ≡ 0 = sym (above y) ∙ ap (λ (z : ℕ). z / 2 ^ (m - (k + n))) (ins_high x k n v) ∙ above x ∙ div-eq_of_lt h in
    let same : 0 * 2 ^ m + ins x k n v % 2 ^ m ≡ ins x k n v = ap (λ (z : ℕ). z * 2 ^ m + y % 2 ^ m) (sym none) ∙ split y m in
    omega (arith, mod-lt y (pow_pos m))

-- a digit below, a digit above
digit_below : (y z k j : ℕ) → j < k → y % 2 ^ k ≡ z % 2 ^ k → y / 2 ^ j % 2 ≡ z / 2 ^ j % 2
digit_below y z k j h e =
    let f : k ≡ k - j - 1 + 1 + j = omega arith in
    let go : (w : ℕ) → w / 2 ^ j % 2 ≡ w % 2 ^ k / 2 ^ j % 2 =
    λ w. sym (mod-mod-pow (w / 2 ^ j) (k - j - 1) 1) ∙ ap (λ (u : ℕ). u % 2) (sym (field w (k - j - 1 + 1) j) ∙ ap (λ (m : ℕ). w % 2 ^ m / 2 ^ j) (sym f)) in
    go y ∙ ap (λ (u : ℕ). u / 2 ^ j % 2) e ∙ sym (go z)

digit_above : (y z k j : ℕ) → k ≤ j → y / 2 ^ k ≡ z / 2 ^ k → y / 2 ^ j % 2 ≡ z / 2 ^ j % 2
digit_above y z k j h e =
    let f : k + (j - k) ≡ j = omega arith in
    let go : (w : ℕ) → w / 2 ^ j ≡ w / 2 ^ k / 2 ^ (j - k) = λ w. ap (λ (m : ℕ). w / 2 ^ m) (sym f) ∙ sym (shr-shr w k (j - k)) in
    ap (λ (u : ℕ). u % 2) (go y ∙ ap (λ (u : ℕ). u / 2 ^ (j - k)) e ∙ sym (go z))

ins_other : (x k v j : ℕ) → j ≢ k → ins x k 1 v / 2 ^ j % 2 ≡ x / 2 ^ j % 2
ins_other x k v j n = go (dec_lt j k)
  where
    go : Dec (j < k) → ins x k 1 v / 2 ^ j % 2 ≡ x / 2 ^ j % 2
    go (yes h) = digit_below (ins x k 1 v) x k j h (ins_low x k 1 v)
    go (no h) = digit_above (ins x k 1 v) x (k + 1) j (omega arith) (ins_high x k 1 v)

-- ---- writing a bit
pub bit_set_same : (s : List ℕ) (j b : ℕ) → j < 8 * length s → bit (set_bit s j b) j ≡ b % 2
unfolding bit set_bit
bit_set_same s j b h =
    ap (λ (x : ℕ). x / 2 ^ (7 - j % 8) % 2) (get_or-set_same s (j / 8) (ins (get_or s (j / 8) 0) (7 - j % 8) 1 b) 0 (omega arith)) ∙ ins_mid (get_or s (j / 8) 0) (7 - j % 8) 1 b

pub bit_set_other : (s : List ℕ) (j b i : ℕ) → i ≢ j → bit (set_bit s j b) i ≡ bit s i
unfolding bit set_bit
bit_set_other s j b i n = go (ℕ_discrete (i / 8) (j / 8)) (dec_lt (j / 8) (length s))
  where
    y : ℕ
    y = ins (get_or s (j / 8) 0) (7 - j % 8) 1 b

    go : Dec (i / 8 ≡ j / 8) → Dec (j / 8 < length s) → get_or (set s (j / 8) y) (i / 8) 0 / 2 ^ (7 - i % 8) % 2 ≡ get_or s (i / 8) 0 / 2 ^ (7 - i % 8) % 2
    go (no q) d = ap (λ (x : ℕ). x / 2 ^ (7 - i % 8) % 2) (get_or-set_other s (j / 8) (i / 8) y 0 q)
    go (yes q) (yes h) =
        let m : 7 - i % 8 ≢ 7 - j % 8 = omega arith in
        ap (λ (x : ℕ). x / 2 ^ (7 - i % 8) % 2) (ap (λ (z : ℕ). get_or (set s (j / 8) y) z 0) q ∙ get_or-set_same s (j / 8) y 0 h)
        ∙ ins_other (get_or s (j / 8) 0) (7 - j % 8) b (7 - i % 8) m
        ∙ ap (λ (z : ℕ). get_or s z 0 / 2 ^ (7 - i % 8) % 2) (sym q)
    go (yes q) (no h) = ap (λ (l : List ℕ). get_or l (i / 8) 0 / 2 ^ (7 - i % 8) % 2) (set_out s (j / 8) y (omega arith))

-- ---- writing a field
pub length_put_bits : (s : List ℕ) (a n v : ℕ) → length (put_bits s a n v) ≡ length s
unfolding put_bits set_bit
length_put_bits s a zero v = refl
length_put_bits s a (suc n) v = length-set (put_bits s a n (v / 2)) ((a + n) / 8) _ ∙ length_put_bits s a n (v / 2)

pub bit_put_other : (s : List ℕ) (a n v j : ℕ) → Clear a n j 1 → bit (put_bits s a n v) j ≡ bit s j
unfolding put_bits
bit_put_other s a zero v j h = refl
bit_put_other s a (suc n) v j h = bit_set_other (put_bits s a n (v / 2)) (a + n) v j (off h) ∙ bit_put_other s a n (v / 2) j (less h)
  where
    off : Clear a (suc n) j 1 → j ≢ a + n
    off (left p) = omega arith
    off (right p) = omega arith

    less : Clear a (suc n) j 1 → Clear a n j 1
    less (left p) = left (omega arith)
    less (right p) = right p

pub bits_put_other : (s : List ℕ) (a n v b m : ℕ) → Clear a n b m → bits (put_bits s a n v) b m ≡ bits s b m
bits_put_other s a n v b m h = bits_ext _ s b m (λ k l. bit_put_other s a n v (b + k) (at k l h))
  where
    at : (k : ℕ) → k < m → Clear a n b m → Clear a n (b + k) 1
    at k l (left p) = left (omega arith)
    at k l (right p) = right (omega arith)

pub bits_put : (s : List ℕ) (a n v : ℕ) → a + n ≤ 8 * length s → bits (put_bits s a n v) a n ≡ v % 2 ^ n
unfolding put_bits bits
bits_put s a zero v h = omega arith
bits_put s a (suc n) v h =
    let t = put_bits s a n (v / 2) in
    let e : bits (set_bit t (a + n) v) a n ≡ v / 2 % 2 ^ n = bits_ext (set_bit t (a + n) v) t a n (λ k l. bit_set_other t (a + n) v (a + k) (omega arith)) ∙ bits_put s a n (v / 2) (omega arith) in
    ap₂ (λ (x y : ℕ). x * 2 + y) e (bit_set_same t (a + n) v (omega (arith, length_put_bits s a n (v / 2)))) ∙ sym (digits_suc v n)

-- two fields, one behind the other
pub put_add : (s : List ℕ) (a n m v : ℕ) → put_bits s a (n + m) v ≡ put_bits (put_bits s a n (v / 2 ^ m)) (a + n) m v
unfolding put_bits
put_add s a n zero v = let e : n + 0 ≡ n = omega arith in let f : v / 2 ^ 0 ≡ v = omega arith in rw (e, f)
put_add s a n (suc m) v =
    let e : a + (n + m) ≡ a + n + m = omega arith in
    let f : n + suc m ≡ suc (n + m) = omega arith in
    let g : v / 2 / 2 ^ m ≡ v / 2 ^ suc m = shr-shr v 1 m ∙ ap (λ (z : ℕ). v / 2 ^ z) (one-add m) in
    ap (λ (z : ℕ). put_bits s a z v) f
    ∙ ap₂ (λ (l : List ℕ) (z : ℕ). set_bit l z v) (put_add s a n m (v / 2)) e
    ∙ ap (λ (z : ℕ). set_bit (put_bits (put_bits s a n z) (a + n) m (v / 2)) (a + n + m) v) g

-- only the number's own digits count
put_digits : (s : List ℕ) (a n v w : ℕ) → v % 2 ^ n ≡ w % 2 ^ n → put_bits s a n v ≡ put_bits s a n w
unfolding put_bits set_bit ins
put_digits s a zero v w e = refl
put_digits s a (suc n) v w e =
    let q : (v / 2 % 2 ^ n) * 2 + v % 2 ≡ (w / 2 % 2 ^ n) * 2 + w % 2 = sym (digits_suc v n) ∙ e ∙ digits_suc w n in
    let d : v % 2 ≡ w % 2 = omega arith in
    let m : v / 2 % 2 ^ n ≡ w / 2 % 2 ^ n = omega arith in
    rw (put_digits s a n (v / 2) (w / 2) m, d)

-- a field written as it is
put_same_bits : (s : List ℕ) (a n v : ℕ) → v % 2 ^ n ≡ bits s a n → put_bits s a n v ≡ s
unfolding put_bits bits set_bit bit
put_same_bits s a zero v e = refl
put_same_bits s a (suc n) v e =
    let x = get_or s ((a + n) / 8) 0 in
    let k = 7 - (a + n) % 8 in
    let q : (v / 2 % 2 ^ n) * 2 + v % 2 ≡ bits s a n * 2 + bit s (a + n) = sym (digits_suc v n) ∙ e in
    let d : v % 2 ≡ bit s (a + n) = omega (arith, bit_lt s (a + n)) in
    let m : v / 2 % 2 ^ n ≡ bits s a n = omega (arith, bit_lt s (a + n)) in
    ap (λ (t : List ℕ). set t ((a + n) / 8) (ins (get_or t ((a + n) / 8) 0) k 1 v)) (put_same_bits s a n (v / 2) m)
    ∙ ap (set s ((a + n) / 8)) (ins_same x k 1 v d) ∙ set-get_or s ((a + n) / 8) 0

-- a field within a field: what is beside it is written as it is
pub put_within : (s : List ℕ) (a r w t v : ℕ) → put_bits s a (r + (w + t)) (ins (bits s a (r + (w + t))) t w v) ≡ put_bits s (a + r) w v
put_within s a r w t v =
    let x = bits s a (r + (w + t)) in
    let y = ins x t w v in
    let e : w + t ≡ t + w = omega arith in
    let f : r + (w + t) ≡ r + w + t = omega arith in
    let g : a + (r + w) ≡ a + r + w = omega arith in
    let before : y / 2 ^ (w + t) ≡ bits s a r =
    ap (λ (n : ℕ). y / 2 ^ n) e ∙ ins_high x t w v ∙ ap (λ (n : ℕ). x / 2 ^ n) (sym e)
    ∙ ap (λ (z : ℕ). z / 2 ^ (w + t)) (bits_add s a r (w + t)) ∙ high (bits s a r) (w + t) (bits_lt s (a + r) (w + t)) in
    let behind : y % 2 ^ t ≡ bits s (a + r + w) t =
    ins_low x t w v ∙ ap (λ (n : ℕ). bits s a n % 2 ^ t) f ∙ ap (λ (z : ℕ). z % 2 ^ t) (bits_add s a (r + w) t)
    ∙ low (bits s a (r + w)) t (bits_lt s (a + (r + w)) t) ∙ ap (λ (n : ℕ). bits s n t) g in
    let kept : bits s (a + r + w) t ≡ bits (put_bits s (a + r) w v) (a + r + w) t = sym (bits_put_other s (a + r) w v (a + r + w) t (left (omega arith))) in
    put_add s a r (w + t) y
    ∙ ap (λ (z : List ℕ). put_bits z (a + r) (w + t) y) (put_same_bits s a r (y / 2 ^ (w + t)) (ap (λ (z : ℕ). z % 2 ^ r) before ∙ mod-eq_of_lt (bits_lt s a r)))
    ∙ put_add s (a + r) w t y
    ∙ ap (λ (z : List ℕ). put_bits z (a + r + w) t y) (put_digits s (a + r) w (y / 2 ^ t) v (ins_mid x t w v))
    ∙ put_same_bits (put_bits s (a + r) w v) (a + r + w) t y (behind ∙ kept)

-- within a byte
ins_none : (x k v : ℕ) → ins x k 0 v ≡ x
unfolding ins
ins_none x k v = let e : k + 0 ≡ k = omega arith in let z : v % 2 ^ 0 ≡ 0 = omega arith in rw (e, z) (omega (arith, split x k))

ins_step : (x k n v : ℕ) → ins (ins x (k + 1) n (v / 2)) k 1 v ≡ ins x k (suc n) v
ins_step x k n v =
    let y = ins x (k + 1) n (v / 2) in
    let c : k + 1 + n ≡ k + suc n = omega arith in
    let hi = x / 2 ^ (k + suc n) in
    let a : y / 2 ^ (k + 1) ≡ hi * 2 ^ n + v / 2 % 2 ^ n = ins_shr x (k + 1) n (v / 2) ∙ ap (λ (m : ℕ). x / 2 ^ m * 2 ^ n + v / 2 % 2 ^ n) c in
    let b : y % 2 ^ k ≡ x % 2 ^ k =
    let e : k + 1 ≡ 1 + k = omega arith in
    sym (mod-mod-pow y 1 k) ∙ ap (λ (z : ℕ). z % 2 ^ k) (ap (λ (m : ℕ). y % 2 ^ m) (sym e) ∙ ins_low x (k + 1) n (v / 2) ∙ ap (λ (m : ℕ). x % 2 ^ m) e) ∙ mod-mod-pow x 1 k in
    let d : hi * 2 ^ suc n ≡ hi * 2 ^ n * 2 = ap (λ (z : ℕ). hi * z) (pow-suc 2 n) ∙ sym (mul_assoc hi (2 ^ n) 2) in
    let f : y / 2 ^ (k + 1) * 2 + v % 2 ≡ hi * 2 ^ suc n + v % 2 ^ suc n = omega (arith, a, d, digits_suc v n) in
    ins_shape y k 1 v ∙ ap₂ (λ (u w : ℕ). u * 2 ^ k + w) f b ∙ sym (ins_shape x k (suc n) v)

pub put_byte : (s : List ℕ) (p r n v : ℕ) → r + n ≤ 8 → p < length s → put_bits s (8 * p + r) n v ≡ set s p (ins (get_or s p 0) (8 - r - n) n v)
unfolding put_bits set_bit
put_byte s p r zero v h l = sym (ap (set s p) (ins_none (get_or s p 0) (8 - r - 0) v) ∙ set-get_or s p 0)
put_byte s p r (suc n) v h l =
    let x = get_or s p 0 in
    let k = 8 - r - suc n in
    let e₁ : (8 * p + r + n) / 8 ≡ p = omega arith in
    let e₂ : 7 - (8 * p + r + n) % 8 ≡ 8 - r - suc n = omega arith in
    let e₃ : 8 - r - n ≡ 8 - r - suc n + 1 = omega arith in
    let y = ins x (k + 1) n (v / 2) in
    let ih : put_bits s (8 * p + r) n (v / 2) ≡ set s p y = put_byte s p r n (v / 2) (omega arith) l ∙ ap (λ (m : ℕ). set s p (ins x m n (v / 2))) e₃ in
    ap (λ (t : List ℕ). set t ((8 * p + r + n) / 8) (ins (get_or t ((8 * p + r + n) / 8) 0) (7 - (8 * p + r + n) % 8) 1 v)) ih
    ∙ ap₂ (λ (i m : ℕ). set (set s p y) i (ins (get_or (set s p y) i 0) m 1 v)) e₁ e₂
    ∙ ap (λ (z : ℕ). set (set s p y) p (ins z k 1 v)) (get_or-set_same s p y 0 l)
    ∙ set-set s p y (ins y k 1 v)
    ∙ ap (set s p) (ins_step x k n v)

-- a whole byte
pub put_whole : (s : List ℕ) (p v : ℕ) → p < length s → get_or s p 0 < 256 → put_bits s (8 * p) 8 v ≡ set s p (v % 256)
unfolding ins
put_whole s p v l h =
    let e : 8 * p ≡ 8 * p + 0 = omega arith in
    let f : ins (get_or s p 0) 0 8 v ≡ v % 256 = omega arith in
    ap (λ (a : ℕ). put_bits s a 8 v) e ∙ put_byte s p 0 8 v (lit≤ tt) l ∙ ap (set s p) f

-- ---- whole bytes: a field that starts and ends with a byte is a big-endian number
byte_at : (s : List ℕ) (p : ℕ) → get_or s p 0 < 256 → bits s (8 * p) 8 ≡ get_or s p 0
byte_at s p h =
    let e : 8 * p ≡ 8 * p + 0 = omega arith in
    let f : get_or s p 0 / 2 ^ 0 % 2 ^ 8 ≡ get_or s p 0 = omega arith in
    ap (λ (a : ℕ). bits s a 8) e ∙ bits_byte s p 0 8 (lit≤ tt) ∙ f

pub bits_be : (s : List ℕ) (p n : ℕ) → ((k : ℕ) → k < n → get_or s (p + k) 0 < 256) → bits s (8 * p) (8 * n) ≡ be s p n
unfolding be bits
bits_be s p zero h = refl
bits_be s p (suc n) h =
    let e : 8 * suc n ≡ 8 * n + 8 = omega arith in
    let f : 8 * p + 8 * n ≡ 8 * (p + n) = omega arith in
    ap (bits s (8 * p)) e ∙ bits_add s (8 * p) (8 * n) 8
    ∙ ap₂ (λ (x y : ℕ). x * 256 + y) (bits_be s p n (λ k l. h k (omega arith))) (ap (λ (a : ℕ). bits s a 8) f ∙ byte_at s (p + n) (h n (omega arith)))

pub put_bytes : (s : List ℕ) (p n v : ℕ) → p + n ≤ length s → ((k : ℕ) → k < n → get_or s (p + k) 0 < 256) → put_bits s (8 * p) (8 * n) v ≡ put s p (digits n v)
unfolding put_bits digits
put_bytes s p zero v l h = sym (put_nil s p)
put_bytes s p (suc n) v l h =
    let e : 8 * suc n ≡ 8 * n + 8 = omega arith in
    let f : 8 * p + 8 * n ≡ 8 * (p + n) = omega arith in
    let t = put s p (digits n (v / 256)) in
    let m : length (digits n (v / 256)) ≡ n = length_digits n (v / 256) in
    let o : get_or t (p + n) 0 ≡ get_or s (p + n) 0 = get_or_put_other s p (digits n (v / 256)) (p + n) (left (omega arith)) in
    let b : get_or s (p + n) 0 < 256 = h n (omega arith) in
    ap (λ (w : ℕ). put_bits s (8 * p) w v) e ∙ put_add s (8 * p) (8 * n) 8 v
    ∙ ap₂ (λ (x : List ℕ) (a : ℕ). put_bits x a 8 v) (put_bytes s p n (v / 256) (omega arith) (λ k i. h k (omega arith))) f
    ∙ put_whole t (p + n) v (omega (arith, length_put s p (digits n (v / 256)))) (omega arith)
    ∙ sym (put_one t (p + n) (v % 256))
    ∙ ap (λ (i : ℕ). put t (p + i) (v % 256 ∷ [])) (sym m)
    ∙ sym (put_append s p (digits n (v / 256)) (v % 256 ∷ []))

-- ---- the first bytes of a list: their fields, read and written
pub bit_front : (s : List ℕ) (m j : ℕ) → j < 8 * m → bit (bytes_at s 0 m) j ≡ bit s j
unfolding bit
bit_front s m j h = ap (λ (x : ℕ). x / 2 ^ (7 - j % 8) % 2) (get_or_bytes_at s 0 m (j / 8) (omega arith) ∙ ap (λ (i : ℕ). get_or s i 0) (zero-add (j / 8)))

pub bits_front : (s : List ℕ) (m a n : ℕ) → a + n ≤ 8 * m → bits (bytes_at s 0 m) a n ≡ bits s a n
bits_front s m a n h = bits_ext (bytes_at s 0 m) s a n (λ k l. bit_front s m (a + k) (omega arith))

front_set : (s : List ℕ) (m i x : ℕ) → i < m → bytes_at (set s i x) 0 m ≡ set (bytes_at s 0 m) i x
front_set s m i x h =
    ap (λ (t : List ℕ). bytes_at t 0 m) (sym (put_one s i x)) ∙ ap (λ (k : ℕ). bytes_at (put s k (x ∷ [])) 0 m) (sym (zero-add i))
    ∙ put_inside s 0 (x ∷ []) i m (omega arith) ∙ put_one (bytes_at s 0 m) i x

pub front_put_bits : (s : List ℕ) (m a n v : ℕ) → a + n ≤ 8 * m → bytes_at (put_bits s a n v) 0 m ≡ put_bits (bytes_at s 0 m) a n v
unfolding put_bits set_bit
front_put_bits s m a zero v h = refl
front_put_bits s m a (suc n) v h =
    let t = put_bits s a n (v / 2) in
    let j = (a + n) / 8 in
    let k : (a + n) / 8 < m = omega arith in
    let ih : bytes_at t 0 m ≡ put_bits (bytes_at s 0 m) a n (v / 2) = front_put_bits s m a n (v / 2) (omega arith) in
    let g : get_or t j 0 ≡ get_or (bytes_at t 0 m) j 0 = ap (λ (i : ℕ). get_or t i 0) (sym (zero-add j)) ∙ sym (get_or_bytes_at t 0 m j k) in
    front_set t m j (ins (get_or t j 0) (7 - (a + n) % 8) 1 v) k
    ∙ ap₂ (λ (u : List ℕ) (x : ℕ). set u j (ins x (7 - (a + n) % 8) 1 v)) ih (g ∙ ap (λ (u : List ℕ). get_or u j 0) ih)

-- ---- a number beside a field
pub get_or_put_bits : (s : List ℕ) (a n v k : ℕ) → Clear a n (8 * k) 8 → get_or (put_bits s a n v) k 0 ≡ get_or s k 0
unfolding put_bits set_bit
get_or_put_bits s a zero v k h = refl
get_or_put_bits s a (suc n) v k h =
    get_or-set_other (put_bits s a n (v / 2)) ((a + n) / 8) k _ 0 (off h) ∙ get_or_put_bits s a n (v / 2) k (less h)
  where
    off : Clear a (suc n) (8 * k) 8 → k ≢ (a + n) / 8
    off (left p) = omega arith
    off (right p) = omega arith

    less : Clear a (suc n) (8 * k) 8 → Clear a n (8 * k) 8
    less (left p) = left (omega arith)
    less (right p) = right p

pub be_put_bits : (s : List ℕ) (a n v p m : ℕ) → Clear a n (8 * p) (8 * m) → be (put_bits s a n v) p m ≡ be s p m
be_put_bits s a n v p m h = be_ext (put_bits s a n v) s p m (λ k l. get_or_put_bits s a n v (p + k) (at k l h))
  where
    at : (k : ℕ) → k < m → Clear a n (8 * p) (8 * m) → Clear a n (8 * (p + k)) 8
    at k l (left q) = left (omega arith)
    at k l (right q) = right (omega arith)

-- ---- a field beside bytes that are written
pub bit_beside : (s : List ℕ) (p : ℕ) (v : List ℕ) (j : ℕ) → Clear (8 * p) (8 * length v) j 1 → bit (put s p v) j ≡ bit s j
unfolding bit
bit_beside s p v j h = ap (λ (x : ℕ). x / 2 ^ (7 - j % 8) % 2) (get_or_put_other s p v (j / 8) (byte h))
  where
    byte : Clear (8 * p) (8 * length v) j 1 → Clear p (length v) (j / 8) 1
    byte (left q) = left (omega arith)
    byte (right q) = right (omega arith)

pub bits_beside : (s : List ℕ) (p : ℕ) (v : List ℕ) (a n : ℕ) → Clear (8 * p) (8 * length v) a n → bits (put s p v) a n ≡ bits s a n
bits_beside s p v a n h = bits_ext (put s p v) s a n (λ k l. bit_beside s p v (a + k) (at k l h))
  where
    at : (k : ℕ) → k < n → Clear (8 * p) (8 * length v) a n → Clear (8 * p) (8 * length v) (a + k) 1
    at k l (left q) = left (omega arith)
    at k l (right q) = right (omega arith)
