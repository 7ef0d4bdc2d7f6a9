-- The laws of `be` and `digits`. Nothing else opens them. Assumes nothing.
use mathlib.Core.Path.{◌≡◌, refl, sym, ap, ap₂, ◌∙◌, subst}
use mathlib.Core.Logic.{◌⊎◌, inl, inr}
use Prim.Native.Nat.{ℕ, zero, suc, ◌+◌, ◌*◌, ◌/◌, ◌%◌, ◌^◌, ◌≤◌, ◌<◌}
use native.Mathlib.Nat.{add-zero, zero-add, add-suc, add_assoc, add-mul, mul_assoc, pow-zero, pow-suc, one-le-pow, mod-lt, mod-eq_of_lt, div-div-eq-div-mul, eq-or-lt_of_le, le_of_suc-le-suc}
use native.Mathlib.Numerals.{add-one}
use native.Mathlib.Omega.{arith}
use mathlib.Core.List.{List, [], ◌∷◌, ◌++◌, append_assoc, append-nil}
use lib.Arith as A
use lib.ListN.{length, get_or, set, length-append, get_or-append}
use lib.Seq.{get_or_at}
use Rattle.octets.specs.Bytes.{bytes_at, put, be, digits, zeros, Clear}
use Rattle.octets.proofs.Bytes.{clear_part, part_none, part_one, part_append, get_or_bytes_at, get_or_zeros, get_or_put_other, get_or_put_same, put_one, put_append}

pow_pos : (n : ℕ) → 0 < 256 ^ n
pow_pos n = one-le-pow n 256 (omega arith)

mod_suc : (n v : ℕ) → v % 256 ^ suc n ≡ v / 256 % 256 ^ n * 256 + v % 256
mod_suc n v = ap (λ (x : ℕ). v % x) (pow-suc 256 n) ∙ A.mod-mul v (pow_pos n) (omega arith)

-- ---- a number read
pub be_zeros : (n i m : ℕ) → be (zeros n) i m ≡ 0
unfolding be
be_zeros n i zero = refl
be_zeros n i (suc m) = ap₂ (λ (x y : ℕ). x * 256 + y) (be_zeros n i m) (get_or_zeros n (i + m))

-- the same bytes, wherever they lie, make the same number
pub be_agree : (s : List ℕ) (i : ℕ) (t : List ℕ) (j n : ℕ) → ((k : ℕ) → k < n → get_or s (i + k) 0 ≡ get_or t (j + k) 0)
    → be s i n ≡ be t j n
unfolding be
be_agree s i t j zero h = refl
be_agree s i t j (suc n) h =
    ap₂ (λ (x y : ℕ). x * 256 + y) (be_agree s i t j n (λ k l. h k (omega arith))) (h n (omega arith))

pub be_ext : (s t : List ℕ) (i n : ℕ) → ((k : ℕ) → k < n → get_or s (i + k) 0 ≡ get_or t (i + k) 0) → be s i n ≡ be t i n
be_ext s t i n h = be_agree s i t i n h

pub be_part : (s : List ℕ) (i n j m : ℕ) → j + m ≤ n → be (bytes_at s i n) j m ≡ be s (i + j) m
be_part s i n j m h =
    be_agree (bytes_at s i n) j s (i + j) m
    (λ k l. get_or_bytes_at s i n (j + k) (omega arith) ∙ ap (λ (x : ℕ). get_or s x 0) (sym (add_assoc i j k)))

pub be_other : (s : List ℕ) (i : ℕ) (v : List ℕ) (j n : ℕ) → Clear i (length v) j n → be (put s i v) j n ≡ be s j n
be_other s i v j n h = be_ext (put s i v) s j n (λ k l. get_or_put_other s i v (j + k) (clear_part k 1 (omega arith) h))

-- a number in two pieces
pub be_add : (s : List ℕ) (i n m : ℕ) → be s i (n + m) ≡ be s i n * 256 ^ m + be s (i + n) m
unfolding be
be_add s i n zero =
    let e : be s i n ≡ be s i n * 1 + 0 = omega arith in
    ap (λ (k : ℕ). be s i k) (add-zero n) ∙ e ∙ ap (λ (x : ℕ). be s i n * x + 0) (sym (pow-zero 256))
be_add s i n (suc m) =
    let e : i + (n + m) ≡ i + n + m = omega arith in
    ap (λ (k : ℕ). be s i k) (add-suc n m)
    ∙ ap₂ (λ (x y : ℕ). x * 256 + y) (be_add s i n m) (ap (λ (k : ℕ). get_or s k 0) e)
    ∙ ap (λ (x : ℕ). x + get_or s (i + n + m) 0)
    (add-mul (be s i n * 256 ^ m) (be s (i + n) m) 256
    ∙ ap (λ (x : ℕ). x + be s (i + n) m * 256)
    (mul_assoc (be s i n) (256 ^ m) 256 ∙ ap (λ (x : ℕ). be s i n * x) (sym (pow-suc 256 m))))
    ∙ add_assoc (be s i n * 256 ^ suc m) (be s (i + n) m * 256) (get_or s (i + n + m) 0)

pub be_lt : (s : List ℕ) (i n : ℕ) → ((k : ℕ) → k < n → get_or s (i + k) 0 < 256) → be s i n < 256 ^ n
unfolding be
be_lt s i zero h = subst (λ (x : ℕ). 0 < x) (sym (pow-zero 256)) (omega arith)
be_lt s i (suc n) h =
    subst (λ (x : ℕ). be s i n * 256 + get_or s (i + n) 0 < x) (sym (pow-suc 256 n))
    (A.digits_lt (be_lt s i n (λ k l. h k (omega arith))) (h n (omega arith)))

-- ---- a number written

pub length_digits : (n v : ℕ) → length (digits n v) ≡ n
unfolding digits
length_digits zero v = refl
length_digits (suc n) v =
    length-append (digits n (v / 256)) (v % 256 ∷ []) ∙ ap (λ (k : ℕ). k + 1) (length_digits n (v / 256)) ∙ add-one n

digits_last : (n v : ℕ) → get_or (digits n (v / 256) ++ (v % 256 ∷ [])) n 0 ≡ v % 256
digits_last n v = get_or_at (digits n (v / 256)) (v % 256) [] 0 n (length_digits n (v / 256))

digits_init : (n v k : ℕ) → k < n → get_or (digits n (v / 256) ++ (v % 256 ∷ [])) k 0 ≡ get_or (digits n (v / 256)) k 0
digits_init n v k h =
    let l : length (digits n (v / 256)) ≡ n = length_digits n (v / 256) in
    get_or-append (digits n (v / 256)) (v % 256 ∷ []) 0 k (omega arith)

pub digits_lt : (n v k : ℕ) → k < n → get_or (digits n v) k 0 < 256
unfolding digits
digits_lt zero v k h = absurd (omega arith)
digits_lt (suc n) v k h = go (digits_lt n (v / 256) k) (eq-or-lt_of_le (le_of_suc-le-suc h))
  where
    go : (k < n → get_or (digits n (v / 256)) k 0 < 256) → (k ≡ n) ⊎ (k < n) → get_or (digits n (v / 256) ++ (v % 256 ∷ [])) k 0 < 256
    go r (inl e) = rw (e, digits_last n v) (mod-lt v (omega arith))
    go r (inr l) = rw (digits_init n v k l) (r l)

be_init : (s t : List ℕ) (n : ℕ) → length s ≡ n → be (s ++ t) 0 n ≡ be s 0 n
be_init s t n e = be_ext (s ++ t) s 0 n (λ k l. get_or-append s t 0 (0 + k) (omega arith))

pub be_of_digits : (n v : ℕ) → be (digits n v) 0 n ≡ v % 256 ^ n
unfolding digits be
be_of_digits zero v =
    let e : v % 1 ≡ 0 = omega arith in
    sym (ap (λ (x : ℕ). v % x) (pow-zero 256) ∙ e)
be_of_digits (suc n) v =
    let whole = digits n (v / 256) ++ (v % 256 ∷ []) in
    ap₂ (λ (x y : ℕ). x * 256 + y)
    (be_init (digits n (v / 256)) (v % 256 ∷ []) n (length_digits n (v / 256)) ∙ be_of_digits n (v / 256))
    (ap (λ (k : ℕ). get_or whole k 0) (zero-add n) ∙ digits_last n v)
    ∙ sym (mod_suc n v)

pub be_digits : (s : List ℕ) (i n v : ℕ) → i + n ≤ length s → be (put s i (digits n v)) i n ≡ v % 256 ^ n
be_digits s i n v h =
    let l : length (digits n v) ≡ n = length_digits n v in
    be_agree (put s i (digits n v)) i (digits n v) 0 n
    (λ k b. get_or_put_same s i (digits n v) k (omega arith) (omega arith) ∙ ap (λ (x : ℕ). get_or (digits n v) x 0) (sym (zero-add k)))
    ∙ be_of_digits n v

pub be_put : (s : List ℕ) (i n v : ℕ) → i + n ≤ length s → v < 256 ^ n → be (put s i (digits n v)) i n ≡ v
be_put s i n v h l = be_digits s i n v h ∙ mod-eq_of_lt l

-- the bytes of the number that bytes make: what a copy by numbers writes
pub digits_be : (s : List ℕ) (i n : ℕ) → ((k : ℕ) → k < n → get_or s (i + k) 0 < 256) → i + n ≤ length s
    → digits n (be s i n) ≡ bytes_at s i n
unfolding digits be
digits_be s i zero b h = sym (part_none s i)
digits_be s i (suc n) b h =
    let l : get_or s (i + n) 0 < 256 = b n (omega arith) in
    ap₂ (λ (x y : ℕ). digits n x ++ (y ∷ [])) (A.digits_div (be s i n) l) (A.digits_mod (be s i n) l)
    ∙ ap₂ (λ (x y : List ℕ). x ++ y) (digits_be s i n (λ k m. b k (omega arith)) (omega arith)) (sym (part_one s (i + n) (omega arith)))
    ∙ sym (part_append s i n 1)
    ∙ ap (λ (k : ℕ). bytes_at s i k) (add-one n)

-- a number's bytes in two pieces
pub digits_add : (n m v : ℕ) → digits (n + m) v ≡ digits n (v / 256 ^ m) ++ digits m v
unfolding digits
digits_add n zero v =
    let e : v / 1 ≡ v = omega arith in
    ap (λ (k : ℕ). digits k v) (add-zero n)
    ∙ ap (λ (x : ℕ). digits n x) (sym (ap (λ (x : ℕ). v / x) (pow-zero 256) ∙ e))
    ∙ sym (append-nil (digits n (v / 256 ^ zero)))
digits_add n (suc m) v =
    let e : 256 * 256 ^ m ≡ 256 ^ suc m = omega (arith, pow-suc 256 m) in
    ap (λ (k : ℕ). digits k v) (add-suc n m)
    ∙ ap (λ (l : List ℕ). l ++ (v % 256 ∷ []))
    (digits_add n m (v / 256)
    ∙ ap (λ (x : ℕ). digits n x ++ digits m (v / 256)) (div-div-eq-div-mul v 256 (256 ^ m) ∙ ap (λ (x : ℕ). v / x) e))
    ∙ append_assoc (digits n (v / 256 ^ suc m)) (digits m (v / 256)) (v % 256 ∷ [])

-- a number's low bytes are those of its low part
pub digits_low : (n v : ℕ) → digits n (v % 256 ^ n) ≡ digits n v
unfolding digits
digits_low zero v = refl
digits_low (suc n) v =
    let l : v % 256 < 256 = mod-lt v (omega arith) in
    ap (λ (x : ℕ). digits n (x / 256) ++ (x % 256 ∷ [])) (mod_suc n v)
    ∙ ap₂ (λ (x y : ℕ). digits n x ++ (y ∷ [])) (A.digits_div (v / 256 % 256 ^ n) l) (A.digits_mod (v / 256 % 256 ^ n) l)
    ∙ ap (λ (x : List ℕ). x ++ (v % 256 ∷ [])) (digits_low n (v / 256))

-- ---- the same in the form of the functions' needs

-- a reading loop, v being what is read of i bytes and x the next
pub read_none : (s : List ℕ) (at : ℕ) → 0 ≡ be s at 0
unfolding be
read_none s at = refl

pub read_more : (s : List ℕ) (at i v x : ℕ) → v ≡ be s at i → x ≡ get_or s (at + i) 0 → v * 256 + x ≡ be s at (i + 1)
unfolding be
read_more s at i v x p e = ap₂ (λ (y z : ℕ). y * 256 + z) p e ∙ ap (λ (k : ℕ). be s at k) (sym (add-one i))

-- a number read, and one written, in two pieces: n and m stand first, for a caller to name
pub be_join : (n m : ℕ) (s : List ℕ) (i a b : ℕ) → a ≡ be s i n → b ≡ be s (i + n) m → a * 256 ^ m + b ≡ be s i (n + m)
be_join n m s i a b p q = ap₂ (λ (x y : ℕ). x * 256 ^ m + y) p q ∙ sym (be_add s i n m)

pub put_join : (n m : ℕ) (s : List ℕ) (i v : ℕ) (x y : List ℕ) → x ≡ put s i (digits n (v / 256 ^ m))
    → y ≡ put x (i + n) (digits m (v % 256 ^ m)) → y ≡ put s i (digits (n + m) v)
put_join n m s i v x y p q =
    q
    ∙ ap₂ (λ (z w : List ℕ). put z (i + n) w) p (digits_low m v)
    ∙ ap (λ (k : ℕ). put (put s i (digits n (v / 256 ^ m))) (i + k) (digits m v)) (sym (length_digits n (v / 256 ^ m)))
    ∙ sym (put_append s i (digits n (v / 256 ^ m)) (digits m v))
    ∙ ap (λ (w : List ℕ). put s i w) (sym (digits_add n m v))

-- the same of seven bytes, as 4, 2 and 1
pub get_seven : (s : List ℕ) (at h l x : ℕ) → h ≡ be s at 4 → l ≡ be s (at + 4) 2 → x ≡ get_or s (at + 6) 0 → (h * 65536 + l) * 256 + x ≡ be s at 7
get_seven s at h l x p q e = read_more s at 6 (h * 65536 + l) x (be_join 4 2 s at h l p q) e

-- a number of one byte
pub put_digit : (s : List ℕ) (i v : ℕ) → v < 256 → set s i v ≡ put s i (digits 1 v)
unfolding digits
put_digit s i v h = ap (λ (x : ℕ). set s i x) (sym (mod-eq_of_lt h)) ∙ sym (put_one s i (v % 256))
