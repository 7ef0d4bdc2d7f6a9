-- A field of the header and values, written in either order: neither sees the other. Assumes nothing.
use mathlib.Core.Path.{◌≡◌, sym, ap, ap₂, ◌∙◌}
use mathlib.Core.List.{List, ◌++◌}
use Prim.Native.Nat.{ℕ, ◌+◌, ◌-◌, ◌*◌, ◌≤◌, ◌<◌}
use native.Mathlib.Nat.{zero-add}
use native.Mathlib.Omega.{arith}
use lib.ListN.{length}
use lib.Seq.{ext_get_or}
use Rattle.octets.specs.Bytes.{bytes_at, put, left, right}
use Rattle.octets.specs.Bits.{put_bits}
use Rattle.octets.proofs.Bytes.{length_put, length_bytes_at, whole, part_append, get_or_bytes_at, put_inside, read_other}
use Rattle.octets.proofs.Bits.{length_put_bits, front_put_bits, get_or_put_bits}
use Rattle.store.specs.declared.Layout.{Layout}
use Rattle.store.specs.Layout.{Sound}
use Rattle.store.specs.Header.{word_at}
use Rattle.store.specs.Store.{put_live, put_word, put_taken, put_slot}
use Rattle.store.proofs.Readings.{step}

-- the bytes from m on don't see it
pub field_behind : (s : List ℕ) (a n v m k : ℕ) → a + n ≤ 8 * m → m + k ≤ length s → bytes_at (put_bits s a n v) m k ≡ bytes_at s m k
field_behind s a n v m k inside room =
    ext_get_or 0 (bytes_at (put_bits s a n v) m k) (bytes_at s m k) (long ∙ sym (length_bytes_at s m k room))
    (λ i h. let r : i < k = omega (arith, long) in
    get_or_bytes_at (put_bits s a n v) m k i r ∙ get_or_put_bits s a n v (m + i) (left (omega arith)) ∙ sym (get_or_bytes_at s m k i r))
  where
    long : length (bytes_at (put_bits s a n v) m k) ≡ k
    long = length_bytes_at (put_bits s a n v) m k (omega (arith, length_put_bits s a n v))

-- a list is its first m bytes and those behind them
halves : (x y : List ℕ) (m : ℕ) → length x ≡ length y → m ≤ length x → bytes_at x 0 m ≡ bytes_at y 0 m → bytes_at x m (length x - m) ≡ bytes_at y m (length x - m) → x ≡ y
halves x y m e h a b =
    let k : length x ≡ m + (length x - m) = omega arith in
    sym (whole x) ∙ ap (bytes_at x 0) k ∙ split x ∙ ap₂ (λ (u v : List ℕ). u ++ v) a b ∙ sym (split y) ∙ ap (bytes_at y 0) (sym k ∙ e) ∙ whole y
  where
    split : (z : List ℕ) → bytes_at z 0 (m + (length x - m)) ≡ bytes_at z 0 m ++ bytes_at z m (length x - m)
    split z = part_append z 0 m (length x - m) ∙ ap (λ (i : ℕ). bytes_at z 0 m ++ bytes_at z i (length x - m)) (zero-add m)

pub field_write : (s : List ℕ) (a n v m q : ℕ) (w : List ℕ) → a + n ≤ 8 * m → m ≤ q → q + length w ≤ length s → put_bits (put s q w) a n v ≡ put (put_bits s a n v) q w
field_write s a n v m q w inside from upto = halves (put_bits (put s q w) a n v) (put t q w) m (long ∙ sym (length_put t q w ∙ length_put_bits s a n v)) (omega (arith, long)) front back
  where
    t : List ℕ
    t = put_bits s a n v

    long : length (put_bits (put s q w) a n v) ≡ length s
    long = length_put_bits (put s q w) a n v ∙ length_put s q w

    k : ℕ
    k = length (put_bits (put s q w) a n v) - m

    front : bytes_at (put_bits (put s q w) a n v) 0 m ≡ bytes_at (put t q w) 0 m
    front =
        front_put_bits (put s q w) m a n v inside ∙ ap (λ (x : List ℕ). put_bits x a n v) (read_other s q w 0 m (right (omega arith)))
        ∙ sym (front_put_bits s m a n v inside) ∙ sym (read_other t q w 0 m (right (omega arith)))

    -- the write, from the place m on
    moved : (x : List ℕ) → bytes_at (put x q w) m k ≡ put (bytes_at x m k) (q - m) w
    moved x = let e : m + (q - m) ≡ q = omega arith in ap (λ (i : ℕ). bytes_at (put x i w) m k) (sym e) ∙ put_inside x m w (q - m) k (omega (arith, long))

    back : bytes_at (put_bits (put s q w) a n v) m k ≡ bytes_at (put t q w) m k
    back =
        field_behind (put s q w) a n v m k inside (omega (arith, long, length_put s q w)) ∙ moved s
        ∙ ap (λ (x : List ℕ). put x (q - m) w) (sym (field_behind s a n v m k inside (omega (arith, long)))) ∙ sym (moved t)

module _ (l : Layout) (so : Sound l) (s : List ℕ) where
  pub mark_long : (a b : ℕ) → length (put_taken l s a b) ≡ length s
  unfolding put_taken
  mark_long a b = length_put_bits s (8 * l.taken_at + a) 1 b

  pub slot_long : (j w : ℕ) → length (put_slot l s j w) ≡ length s
  unfolding put_slot put_taken put_word
  slot_long j w = length_put_bits (put_bits s (8 * l.taken_at + j) 1 0) (word_at l j) l.width w ∙ length_put_bits s (8 * l.taken_at + j) 1 0

  -- a mark leaves all values
  pub mark_values : (a b p n : ℕ) → a < l.slots → l.guests_at ≤ p → p + n ≤ length s → bytes_at (put_taken l s a b) p n ≡ bytes_at s p n
  unfolding put_taken
  mark_values a b p n la k room = field_behind s (8 * l.taken_at + a) 1 b p n (omega (arith, so.marks)) room

  module _ (p : ℕ) (v : List ℕ) (behind : l.guests_at ≤ p) (room : p + length v ≤ length s) where
    pub live_write : (g b : ℕ) → g ≤ l.guests → put_live (put s p v) g b ≡ put (put_live s g b) p v
    unfolding put_live
    live_write g b hi = field_write s (63 + g) 1 b l.guests_at p v (omega (arith, so.head, so.words)) behind room

    pub word_write : (a w : ℕ) → a < l.slots → put_word l (put s p v) a w ≡ put (put_word l s a w) p v
    unfolding put_word
    word_write a w la = field_write s (word_at l a) l.width w l.guests_at p v (omega (arith, step l.width a l.slots la, so.words)) behind room

    pub mark_write : (a b : ℕ) → a < l.slots → put_taken l (put s p v) a b ≡ put (put_taken l s a b) p v
    unfolding put_taken
    mark_write a b la = field_write s (8 * l.taken_at + a) 1 b l.guests_at p v (omega (arith, so.marks)) behind room

module _ (l : Layout) (so : Sound l) (s : List ℕ) (p : ℕ) (v : List ℕ) (behind : l.guests_at ≤ p) (room : p + length v ≤ length s) where
  pub slot_write : (a w : ℕ) → a < l.slots → put_slot l (put s p v) a w ≡ put (put_slot l s a w) p v
  unfolding put_slot
  slot_write a w la =
      ap (λ (t : List ℕ). put_word l t a w) (mark_write l so s p v behind room a 0 la)
      ∙ word_write l so (put_taken l s a 0) p v behind (omega (arith, room, mark_long l so s a 0)) a w la
