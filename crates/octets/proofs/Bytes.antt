-- The laws of `bytes_at` and `put`, over offset and length. Nothing else opens them. Assumes nothing.
use mathlib.Core.Path.{◌≡◌, refl, sym, ap, ◌∙◌}
use mathlib.Core.Logic.{◌≢◌}
use Prim.Native.Nat.{ℕ, zero, suc, ◌+◌, ◌-◌, min, ◌≤◌, ◌<◌}
use native.Mathlib.Nat.{suc_inj, suc-ne-zero, add-zero}
use native.Mathlib.Omega.{arith}
use native.Mathlib.Decide.{dec_lt}
use mathlib.Core.List.{List, [], ◌∷◌, ◌++◌, append_assoc}
use borrow.Rule.Slice.PartMut.{put_mid}
use lib.ListN.{length, get_or, set, take, drop, replicate, length-take, length-drop, length-replicate, drop_of_length-le}
use lib.Seq.{sets, length-sets, sets-eq, set_comm, set-set, set-get_or, drop-set-lt, drop-set-add, take-set-le, take-set-lt, take_at, drop_at, take-add, take-take, take-length, length-take-le, drop-drop, drop-cons, get_or-take, get_or-drop, get_or-set_other, ext_get_or}
use Rattle.octets.specs.Bytes.{bytes_at, put, zeros, Clear, left, right}

pub clear_sym : {i n j m : ℕ} → Clear i n j m → Clear j m i n
clear_sym (left h) = right h
clear_sym (right h) = left h

-- the first part without its first byte
clear_rest : {i n j m : ℕ} → Clear i (suc n) j m → Clear (suc i) n j m
clear_rest (left h) = left (omega arith)
clear_rest (right h) = right (omega arith)

-- p bytes of the second part, from its byte k on
pub clear_part : {i n j m : ℕ} (k p : ℕ) → k + p ≤ m → Clear i n j m → Clear i n (j + k) p
clear_part k p h (left l) = left (omega arith)
clear_part k p h (right l) = right (omega arith)

clear_first : {i n j m : ℕ} → Clear i n j (suc m) → Clear i n j 1
clear_first (left h) = left h
clear_first (right h) = right (omega arith)

clear_ne : {i n k : ℕ} → Clear i (suc n) k 1 → k ≢ i
clear_ne (left h) = omega arith
clear_ne (right h) = omega arith

-- ---- length

pub length_put : (s : List ℕ) (i : ℕ) (v : List ℕ) → length (put s i v) ≡ length s
unfolding put
length_put s i v = length-sets s i v

pub length_bytes_at : (s : List ℕ) (i n : ℕ) → i + n ≤ length s → length (bytes_at s i n) ≡ n
unfolding bytes_at
length_bytes_at s i n h = length-take-le n (drop i s) (simp length-drop (omega arith))

-- ---- a part

-- a part that is lent to a callee or handed back to a caller
pub part_lent : (s : List ℕ) (i n : ℕ) → take n (drop i s) ≡ bytes_at s i n
unfolding bytes_at
part_lent s i n = refl

pub between_lent : (s : List ℕ) (i n : ℕ) → take (i + n - i) (drop i s) ≡ bytes_at s i n
between_lent s i n = let e : i + n - i ≡ n = omega arith in ap (λ (m : ℕ). take m (drop i s)) e ∙ part_lent s i n

pub first_lent : (s : List ℕ) (n : ℕ) → take n s ≡ bytes_at s 0 n
first_lent s n = part_lent s 0 n

-- a part that holds v now
pub part_put : (s : List ℕ) (i n : ℕ) (v : List ℕ) → i + n ≤ length s → length v ≡ n → put_mid i (i + n - i) s v ≡ put s i v
unfolding put
part_put s i n v h e =
    let k : i + n - i ≡ length v = omega arith in
    let r : i + length v ≤ length s = omega arith in
    ap (λ (m : ℕ). put_mid i m s v) k
    ∙ ap (λ (l : List ℕ). take i s ++ (v ++ l)) (drop-drop (length v) i s)
    ∙ sym (append_assoc (take i s) v (drop (i + length v) s))
    ∙ sym (sets-eq v s i r)

pub part_cleared : (s : List ℕ) (i n : ℕ) (v : List ℕ) → i + n ≤ length s → v ≡ replicate (length (take (i + n - i) (drop i s))) 0
    → put_mid i (i + n - i) s v ≡ put s i (zeros n)
unfolding zeros
part_cleared s i n v h e =
    let k : length (take (i + n - i) (drop i s)) ≡ n = ap (λ (l : List ℕ). length l) (between_lent s i n) ∙ length_bytes_at s i n h in
    let w : v ≡ replicate n 0 = e ∙ ap (λ (m : ℕ). replicate m 0) k in
    part_put s i n v h (ap (λ (l : List ℕ). length l) w ∙ length-replicate {A = ℕ} n 0) ∙ ap (put s i) w

pub part_none : (s : List ℕ) (i : ℕ) → bytes_at s i 0 ≡ []
unfolding bytes_at
part_none s i = refl

pub part_one : (s : List ℕ) (i : ℕ) → i < length s → bytes_at s i 1 ≡ get_or s i 0 ∷ []
unfolding bytes_at
part_one s i h = ap (λ (l : List ℕ). take 1 l) (drop-cons s i 0 h)

pub whole : (s : List ℕ) → bytes_at s 0 (length s) ≡ s
unfolding bytes_at
whole s = take-length s

pub part_append : (s : List ℕ) (i n m : ℕ) → bytes_at s i (n + m) ≡ bytes_at s i n ++ bytes_at s (i + n) m
unfolding bytes_at
part_append s i n m = take-add n m (drop i s) ∙ ap (λ (l : List ℕ). take n (drop i s) ++ take m l) (drop-drop n i s)

part_take : (s : List ℕ) (n j m : ℕ) → j + m ≤ n → take m (drop j (take n s)) ≡ take m (drop j s)
part_take s n zero m h = take-take m n s (omega arith)
part_take s zero (suc j) m h = absurd (omega arith)
part_take [] (suc n) (suc j) m h = refl
part_take (x ∷ s) (suc n) (suc j) m h = part_take s n j m (omega arith)

pub part_of_part : (s : List ℕ) (i n j m : ℕ) → j + m ≤ n → bytes_at (bytes_at s i n) j m ≡ bytes_at s (i + j) m
unfolding bytes_at
part_of_part s i n j m h = part_take (drop i s) n j m h ∙ ap (λ (l : List ℕ). take m l) (drop-drop j i s)

pub get_or_bytes_at : (s : List ℕ) (i n k : ℕ) → k < n → get_or (bytes_at s i n) k 0 ≡ get_or s (i + k) 0
unfolding bytes_at
get_or_bytes_at s i n k h = get_or-take n (drop i s) k 0 h ∙ get_or-drop i s k 0

length_part : (s : List ℕ) (i n : ℕ) → length (bytes_at s i n) ≡ min n (length s - i)
unfolding bytes_at
length_part s i n = length-take n (drop i s) ∙ ap (min n) (length-drop i s)

-- the same part of two lists that are as long, byte by byte
pub part_ext : (s t : List ℕ) (i n : ℕ) → length s ≡ length t → ((k : ℕ) → k < n → get_or s (i + k) 0 ≡ get_or t (i + k) 0) → bytes_at s i n ≡ bytes_at t i n
part_ext s t i n e h =
    ext_get_or 0 (bytes_at s i n) (bytes_at t i n) (length_part s i n ∙ ap (λ (m : ℕ). min n (m - i)) e ∙ sym (length_part t i n))
    (λ k l. let m : k < n = omega (arith, length_part s i n) in get_or_bytes_at s i n k m ∙ h k m ∙ sym (get_or_bytes_at t i n k m))

-- ---- writes

pub put_nil : (s : List ℕ) (i : ℕ) → put s i [] ≡ s
unfolding put
put_nil s i = refl

pub put_one : (s : List ℕ) (i x : ℕ) → put s i (x ∷ []) ≡ set s i x
unfolding put
put_one s i x = refl

-- one write is two, side by side
pub put_append : (s : List ℕ) (i : ℕ) (v w : List ℕ) → put s i (v ++ w) ≡ put (put s i v) (i + length v) w
unfolding put
put_append s i [] w = ap (λ (k : ℕ). sets s k w) (sym (add-zero i))
put_append s i (a ∷ v) w =
    let e : suc i + length v ≡ i + suc (length v) = omega arith in
    put_append (set s i a) (suc i) v w ∙ ap (λ (k : ℕ). sets (sets (set s i a) (suc i) v) k w) e

sets_set : (v s : List ℕ) (i j b : ℕ) → Clear i (length v) j 1 → set (sets s i v) j b ≡ sets (set s j b) i v
sets_set [] s i j b h = refl
sets_set (a ∷ v) s i j b h =
    sets_set v (set s i a) (suc i) j b (clear_rest h)
    ∙ ap (λ (l : List ℕ). sets l (suc i) v) (set_comm s i j a b (λ e. clear_ne h (sym e)))

-- the last write stays
pub put_put : (s : List ℕ) (i : ℕ) (v w : List ℕ) → length v ≡ length w → put (put s i v) i w ≡ put s i w
unfolding put
put_put s i [] [] e = refl
put_put s i [] (b ∷ w) e = absurd (suc-ne-zero (length w) (sym e))
put_put s i (a ∷ v) [] e = absurd (suc-ne-zero (length v) e)
put_put s i (a ∷ v) (b ∷ w) e =
    ap (λ (l : List ℕ). sets l (suc i) w)
    (sets_set v (set s i a) (suc i) i b (right (omega arith)) ∙ ap (λ (l : List ℕ). sets l (suc i) v) (set-set s i a b))
    ∙ put_put (set s i b) (suc i) v w (suc_inj e)

-- two writes apart, in either order
pub put_comm : (s : List ℕ) (i : ℕ) (v : List ℕ) (j : ℕ) (w : List ℕ) → Clear i (length v) j (length w)
    → put (put s i v) j w ≡ put (put s j w) i v
unfolding put
put_comm s i v j [] h = refl
put_comm s i v j (b ∷ w) h =
    ap (λ (l : List ℕ). sets l (suc j) w) (sets_set v s i j b (clear_first h))
    ∙ put_comm (set s j b) i v (suc j) w (clear_sym (clear_rest (clear_sym h)))

-- writing back what is there
pub put_same : (s : List ℕ) (i n : ℕ) → put s i (bytes_at s i n) ≡ s
unfolding put bytes_at
put_same s i zero = refl
put_same s i (suc n) = go (put_same s (suc i) n) (dec_lt i (length s))
  where
    go : sets s (suc i) (take n (drop (suc i) s)) ≡ s → Dec (i < length s) → sets s i (take (suc n) (drop i s)) ≡ s
    go e (yes h) =
        ap (λ (l : List ℕ). sets s i (take (suc n) l)) (drop-cons s i 0 h)
        ∙ ap (λ (l : List ℕ). sets l (suc i) (take n (drop (suc i) s))) (set-get_or s i 0)
        ∙ e
    go e (no h) = ap (λ (l : List ℕ). sets s i (take (suc n) l)) (drop_of_length-le s {i = i} (omega arith))

-- ---- reads after a write

pub read_back : (s : List ℕ) (i : ℕ) (v : List ℕ) → i + length v ≤ length s → bytes_at (put s i v) i (length v) ≡ v
unfolding put bytes_at
read_back s i v h =
    ap (λ (l : List ℕ). take (length v) (drop i l)) (sets-eq v s i h ∙ append_assoc (take i s) v (drop (i + length v) s))
    ∙ ap (λ (l : List ℕ). take (length v) l) (drop_at (take i s) (v ++ drop (i + length v) s) i (length-take-le i s (omega arith)))
    ∙ take_at v (drop (i + length v) s) (length v) refl

part_set : (s : List ℕ) (i a n j m : ℕ) → Clear i (suc n) j m → take m (drop j (set s i a)) ≡ take m (drop j s)
part_set s i a n j m (left h) = ap (λ (l : List ℕ). take m l) (drop-set-lt j s i a (omega arith))
part_set s i a n j m (right h) =
    let e : j + (i - j) ≡ i = omega arith in
    ap (λ (k : ℕ). take m (drop j (set s k a))) (sym e)
    ∙ ap (λ (l : List ℕ). take m l) (drop-set-add j s (i - j) a)
    ∙ take-set-le m (drop j s) (i - j) a (omega arith)

-- a part of what was written
pub read_part : (s : List ℕ) (i : ℕ) (v : List ℕ) (k n : ℕ) → i + length v ≤ length s → k + n ≤ length v → bytes_at (put s i v) (i + k) n ≡ bytes_at v k n
read_part s i v k n h q = sym (part_of_part (put s i v) i (length v) k n q) ∙ ap (λ (x : List ℕ). bytes_at x k n) (read_back s i v h)

pub read_other : (s : List ℕ) (i : ℕ) (v : List ℕ) (j n : ℕ) → Clear i (length v) j n → bytes_at (put s i v) j n ≡ bytes_at s j n
unfolding put bytes_at
read_other s i [] j n h = refl
read_other s i (a ∷ v) j n h = read_other (set s i a) (suc i) v j n (clear_rest h) ∙ part_set s i a (length v) j n h

-- a part that holds the whole write
pub put_inside : (s : List ℕ) (i : ℕ) (v : List ℕ) (j n : ℕ) → j + length v ≤ n
    → bytes_at (put s (i + j) v) i n ≡ put (bytes_at s i n) j v
unfolding put bytes_at
put_inside s i [] j n h = refl
put_inside s i (a ∷ v) j n h =
    let e : suc (i + j) ≡ i + suc j = omega arith in
    ap (λ (k : ℕ). take n (drop i (sets (set s (i + j) a) k v))) e
    ∙ put_inside (set s (i + j) a) i v (suc j) n (omega arith)
    ∙ ap (λ (l : List ℕ). sets l (suc j) v)
    (ap (λ (l : List ℕ). take n l) (drop-set-add i s j a) ∙ take-set-lt n (drop i s) j a (omega arith))

pub get_or_put_other : (s : List ℕ) (i : ℕ) (v : List ℕ) (k : ℕ) → Clear i (length v) k 1 → get_or (put s i v) k 0 ≡ get_or s k 0
unfolding put
get_or_put_other s i [] k h = refl
get_or_put_other s i (a ∷ v) k h = get_or_put_other (set s i a) (suc i) v k (clear_rest h) ∙ get_or-set_other s i k a 0 (clear_ne h)

pub get_or_put_same : (s : List ℕ) (i : ℕ) (v : List ℕ) (k : ℕ) → i + length v ≤ length s → k < length v
    → get_or (put s i v) (i + k) 0 ≡ get_or v k 0
get_or_put_same s i v k h l =
    sym (get_or_bytes_at (put s i v) i (length v) k l) ∙ ap (λ (x : List ℕ). get_or x k 0) (read_back s i v h)

-- ---- copies and clears, piece by piece

-- a copy of j bytes and then of the m after them
pub put_part : (d : List ℕ) (to : ℕ) (s : List ℕ) (from j m : ℕ) → from + j ≤ length s
    → put (put d to (bytes_at s from j)) (to + j) (bytes_at s (from + j) m) ≡ put d to (bytes_at s from (j + m))
put_part d to s from j m h =
    ap (λ (k : ℕ). put (put d to (bytes_at s from j)) (to + k) (bytes_at s (from + j) m)) (sym (length_bytes_at s from j h))
    ∙ sym (put_append d to (bytes_at s from j) (bytes_at s (from + j) m))
    ∙ ap (λ (v : List ℕ). put d to v) (sym (part_append s from j m))

-- a copying loop's turn
pub put_more : (d : List ℕ) (to : ℕ) (s : List ℕ) (from j : ℕ) → from + j < length s
    → set (put d to (bytes_at s from j)) (to + j) (get_or s (from + j) 0) ≡ put d to (bytes_at s from (j + 1))
put_more d to s from j h =
    sym (put_one (put d to (bytes_at s from j)) (to + j) (get_or s (from + j) 0))
    ∙ ap (λ (v : List ℕ). put (put d to (bytes_at s from j)) (to + j) v) (sym (part_one s (from + j) h))
    ∙ put_part d to s from j 1 (omega arith)

-- ---- the same in the form of the needs of a loop, x being the list as it is then

module _ (d : List ℕ) (to : ℕ) (s : List ℕ) (from : ℕ) where
  pub copy_none : d ≡ put d to (bytes_at s from 0)
  copy_none = sym (ap (λ (v : List ℕ). put d to v) (part_none s from) ∙ put_nil d to)

  pub copy_part : (x : List ℕ) (j : ℕ) (y : List ℕ) (m : ℕ) → x ≡ put d to (bytes_at s from j) → from + j ≤ length s
      → y ≡ put x (to + j) (bytes_at s (from + j) m) → y ≡ put d to (bytes_at s from (j + m))
  copy_part x j y m p h q = q ∙ ap (λ (l : List ℕ). put l (to + j) (bytes_at s (from + j) m)) p ∙ put_part d to s from j m h

  -- two pieces, of k bytes and of what is left of n
  pub copy_two : (k m n : ℕ) (x y : List ℕ) → from + n ≤ length s → k + m ≡ n → x ≡ put d to (bytes_at s from k)
      → y ≡ put x (to + k) (bytes_at s (from + k) m) → y ≡ put d to (bytes_at s from n)
  copy_two k m n x y h e p q = copy_part x k y m p (omega arith) q ∙ ap (λ (i : ℕ). put d to (bytes_at s from i)) e

  pub copy_more : (x : List ℕ) (j n : ℕ) → x ≡ put d to (bytes_at s from j) → j < n → from + n ≤ length s
      → set x (to + j) (get_or s (from + j) 0) ≡ put d to (bytes_at s from (j + 1))
  copy_more x j n p l h = ap (λ (z : List ℕ). set z (to + j) (get_or s (from + j) 0)) p ∙ put_more d to s from j (omega arith)

-- ---- the whole list written anew
pub length_zeros : (n : ℕ) → length (zeros n) ≡ n
unfolding zeros
length_zeros n = length-replicate n 0

-- past the end too, where nothing reads as 0
pub get_or_zeros : (n i : ℕ) → get_or (zeros n) i 0 ≡ 0
unfolding zeros
get_or_zeros zero i = refl
get_or_zeros (suc n) zero = refl
get_or_zeros (suc n) (suc i) = get_or_zeros n i

pub zeros_part : (m i n : ℕ) → i + n ≤ m → bytes_at (zeros m) i n ≡ zeros n
zeros_part m i n h =
    let l : length (bytes_at (zeros m) i n) ≡ n = length_bytes_at (zeros m) i n (omega (arith, length_zeros m)) in
    ext_get_or 0 (bytes_at (zeros m) i n) (zeros n) (l ∙ sym (length_zeros n))
    (λ k q. let r : k < n = omega (arith, l) in get_or_bytes_at (zeros m) i n k r ∙ get_or_zeros m (i + k) ∙ sym (get_or_zeros n k))

pub put_all : (s v : List ℕ) → length v ≡ length s → put s 0 v ≡ v
put_all s v e =
    sym (whole (put s 0 v)) ∙ ap (bytes_at (put s 0 v) 0) (length_put s 0 v ∙ sym e) ∙ read_back s 0 v (omega arith)
