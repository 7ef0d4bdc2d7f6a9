-- A record is read alike whatever bytes stand before it, and behind one that is whole or bad. Assumes nothing.
use mathlib.Core.Path.{◌≡◌, refl, sym, ap, ap₂, ◌∙◌}
use mathlib.Core.Bool.{Bool, true, false, ◌&&◌, ◌||◌, cond, true≢false}
use mathlib.Core.List.{List, ◌++◌}
use Prim.Native.Nat.{ℕ, ◌+◌, ◌*◌, ◌≤◌, ◌<◌}
use native.Mathlib.Omega.{arith}
use native.Mathlib.Decide.{dec_lt}
use lib.Dec.{leb, ltb, eqb}
use lib.ListN.{length, length-append}
use borrow.Author.Tests.{lt-leb, le-leb, leb-true, lt-ltb, le-ltb}
use Rattle.octets.specs.Bytes.{bytes_at}
use Rattle.octets.specs.Bits.{bits}
use Rattle.records.specs.declared.Head.{Head}
use Rattle.std.specs.Prelude.{Ok, Err}
use Rattle.records.specs.declared.Unread.TheVariants.{Cut, Bad}
use Rattle.records.specs.Record.{Read, is_kind, head_at, padding, record_at, record_length, head_good, read_head}
use Rattle.records.specs.Replay.{is_bad, stops_at}
use Rattle.records.proofs.Appended.{part_within, bits_first, part_second, bits_second}

-- what is read, by the three tests and the head
abbrev judged : Bool → Bool → Bool → Head → Read
judged there good whole h = cond there (cond good (cond whole (Ok h) (Err Cut)) (Err Bad)) (Err Cut)

leb_shift : (k m n : ℕ) → leb (k + m) (k + n) ≡ leb m n
leb_shift k m n = go (dec_lt n m)
  where
    go : Dec (n < m) → leb (k + m) (k + n) ≡ leb m n
    go (yes h) = lt-leb (k + m) (k + n) (omega arith) ∙ sym (lt-leb m n h)
    go (no h) = le-leb (k + m) (k + n) (omega arith) ∙ sym (le-leb m n (omega arith))

ltb_shift : (k m n : ℕ) → ltb (k + m) (k + n) ≡ ltb m n
ltb_shift k m n = go (dec_lt m n)
  where
    go : Dec (m < n) → ltb (k + m) (k + n) ≡ ltb m n
    go (yes h) = lt-ltb (k + m) (k + n) (omega arith) ∙ sym (lt-ltb m n h)
    go (no h) = le-ltb (k + m) (k + n) (omega arith) ∙ sym (le-ltb m n (omega arith))

-- ---- bytes before it
module _ (p z : List ℕ) (at : ℕ) where
  abbrev there : ℕ
  there = length p + at

  field_behind : (a b n : ℕ) → a ≡ 8 * length p + b → bits (p ++ z) a n ≡ bits z b n
  field_behind a b n e = ap (λ (i : ℕ). bits (p ++ z) i n) e ∙ bits_second p z b n

  head_behind : head_at (p ++ z) (length p + at) ≡ head_at z at
  unfolding head_at
  head_behind =
      let e₁ = field_behind (8 * there) (8 * at) 4 (omega arith) in
      let e₂ = field_behind (8 * there + 4) (8 * at + 4) 64 (omega arith) in
      let e₃ = field_behind (8 * there + 68) (8 * at + 68) 64 (omega arith) in
      let e₄ = field_behind (8 * there + 132) (8 * at + 132) 64 (omega arith) in
      let e₅ = field_behind (8 * there + 196) (8 * at + 196) 12 (omega arith) in
      let e₆ = field_behind (8 * there + 208) (8 * at + 208) 17 (omega arith) in
      let e₇ = field_behind (8 * there + 225) (8 * at + 225) 17 (omega arith) in
      rw (e₁, e₂, e₃, e₄, e₅, e₆, e₇)

  padding_behind : padding (p ++ z) (length p + at) ≡ padding z at
  unfolding padding
  padding_behind = field_behind (8 * there + 242) (8 * at + 242) 6 (omega arith)

  good_behind : head_good (p ++ z) (length p + at) ≡ head_good z at
  unfolding head_good
  good_behind = ap₂ (λ (h : Head) (x : ℕ). is_kind h.kind && eqb x 0) head_behind padding_behind

  room_behind : (n : ℕ) → leb (length p + at + n) (length (p ++ z)) ≡ leb (at + n) (length z)
  room_behind n =
      let e : length p + at + n ≡ length p + (at + n) = omega arith in
      ap₂ leb e (length-append p z) ∙ leb_shift (length p) (at + n) (length z)

  pub read_behind : read_head (p ++ z) (length p + at) ≡ read_head z at
  unfolding read_head
  read_behind =
      ap₂ (λ (x y : Bool). judged x y (leb (there + record_length (head_at (p ++ z) there)) (length (p ++ z))) (head_at (p ++ z) there)) (room_behind 31) good_behind
      ∙ ap (λ (h : Head). judged (leb (at + 31) (length z)) (head_good z at) (leb (there + record_length h) (length (p ++ z))) h) head_behind
      ∙ ap (λ (x : Bool). judged (leb (at + 31) (length z)) (head_good z at) x (head_at z at)) (room_behind (record_length (head_at z at)))

  piece_behind : (a b n : ℕ) → a ≡ length p + b → bytes_at (p ++ z) a n ≡ bytes_at z b n
  piece_behind a b n e = ap (λ (i : ℕ). bytes_at (p ++ z) i n) e ∙ part_second p z b n

  pub record_behind : record_at (p ++ z) (length p + at) ≡ record_at z at
  unfolding record_at
  record_behind =
      let e₁ = piece_behind (there + 31) (at + 31) (head_at z at).data_len (omega arith) in
      let e₂ = piece_behind (there + 31 + (head_at z at).data_len) (at + 31 + (head_at z at).data_len) (head_at z at).effect_len (omega arith) in
      rw (head_behind, e₁, e₂)

  pub stops_behind : (ended : Bool) → stops_at ended (p ++ z) (length p + at) ≡ stops_at ended z at
  unfolding stops_at
  stops_behind ended =
      ap₂ (λ (r : Read) (x : Bool). is_bad r || (ended && x)) read_behind (ap (ltb (length p + at)) (length-append p z) ∙ ltb_shift (length p) at (length z))

-- ---- bytes behind it
abbrev is_cut : Read → Bool
is_cut (Ok h) = false
is_cut (Err Cut) = true
is_cut (Err Bad) = false

module _ (b c : List ℕ) (at : ℕ) where
  module _ (uncut : at + 31 ≤ length b) where
    field_before : (r w : ℕ) → r + w ≤ 248 → bits (b ++ c) (8 * at + r) w ≡ bits b (8 * at + r) w
    field_before r w h = bits_first b c (8 * at + r) w (omega arith)

    head_before : head_at (b ++ c) at ≡ head_at b at
    unfolding head_at
    head_before =
        let e₁ = bits_first b c (8 * at) 4 (omega arith) in
        let e₂ = field_before 4 64 (omega arith) in
        let e₃ = field_before 68 64 (omega arith) in
        let e₄ = field_before 132 64 (omega arith) in
        let e₅ = field_before 196 12 (omega arith) in
        let e₆ = field_before 208 17 (omega arith) in
        let e₇ = field_before 225 17 (omega arith) in
        rw (e₁, e₂, e₃, e₄, e₅, e₆, e₇)

    good_before : head_good (b ++ c) at ≡ head_good b at
    unfolding head_good padding
    good_before = ap₂ (λ (h : Head) (x : ℕ). is_kind h.kind && eqb x 0) head_before (field_before 242 6 (omega arith))

  more_room : (n : ℕ) → at + n ≤ length b → leb (at + n) (length (b ++ c)) ≡ true
  more_room n h = le-leb (at + n) (length (b ++ c)) (omega (arith, length-append b c))

  pub read_before : (r : Read) → read_head b at ≡ r → is_cut r ≡ false → read_head (b ++ c) at ≡ r
  unfolding read_head
  read_before r e f = go (leb (at + 31) (length b)) refl (head_good b at) refl (leb (at + record_length (head_at b at)) (length b)) refl e
    where
      none : Err Cut ≡ r → read_head (b ++ c) at ≡ r
      none q = absurd (true≢false (ap is_cut q ∙ f))

      go : (x : Bool) → leb (at + 31) (length b) ≡ x → (y : Bool) → head_good b at ≡ y → (w : Bool) → leb (at + record_length (head_at b at)) (length b) ≡ w
          → judged x y w (head_at b at) ≡ r → read_head (b ++ c) at ≡ r
      go false p y g w l q = none q
      go true p false g w l q =
          let uncut : at + 31 ≤ length b = leb-true _ _ p in
          ap₂ (λ (s t : Bool). judged s t (leb (at + record_length (head_at (b ++ c) at)) (length (b ++ c))) (head_at (b ++ c) at)) (more_room 31 uncut) (good_before uncut ∙ g) ∙ q
      go true p true g false l q = none q
      go true p true g true l q =
          let uncut : at + 31 ≤ length b = leb-true _ _ p in
          ap₂ (λ (s t : Bool). judged s t (leb (at + record_length (head_at (b ++ c) at)) (length (b ++ c))) (head_at (b ++ c) at)) (more_room 31 uncut) (good_before uncut ∙ g)
          ∙ ap (λ (h : Head). judged true true (leb (at + record_length h) (length (b ++ c))) h) (head_before uncut)
          ∙ ap (λ (s : Bool). judged true true s (head_at b at)) (more_room (record_length (head_at b at)) (leb-true _ _ l)) ∙ q

  pub record_before : at + record_length (head_at b at) ≤ length b → record_at (b ++ c) at ≡ record_at b at
  unfolding record_at
  record_before room =
      let e = head_before (omega arith) in
      let e₁ = part_within b c (at + 31) (head_at b at).data_len (omega arith) in
      let e₂ = part_within b c (at + 31 + (head_at b at).data_len) (head_at b at).effect_len (omega arith) in
      rw (e, e₁, e₂)
