-- The laws of `Printed`: texts written one behind the other. Assumes nothing.
use mathlib.Core.Path.{◌≡◌, refl, sym, ap, ◌∙◌}
use mathlib.Core.List.{List, [], ◌∷◌, ◌++◌}
use Prim.Native.Nat.{ℕ, ◌+◌, ◌-◌, ◌/◌, ◌%◌, ◌^◌, ◌≤◌, ◌<◌}
use native.Mathlib.Omega.{arith}
use mir.Syntax.{w64}
use mir.Val.{Fits}
use lib.ListN.{length, set, length-append}
use Rattle.octets.specs.Bytes.{put, bytes_at}
use Rattle.octets.proofs.Bytes.{length_put, whole, put_nil, put_one, put_append}
use Rattle.text.specs.Text.{Printed, digit, shown, decimal, hex4}
use Rattle.text.proofs.Digits.{shown_none, shown_one, shown_more, shown_most, length_shown}

module _ (s : List ℕ) (at : ℕ) where
  pub wrote_nil : Printed s at [] s at
  wrote_nil = record { place = omega arith; bytes = sym (put_nil s at) }

  pub wrote_byte : (x : ℕ) → Printed s at (x ∷ []) (set s at x) (at + 1)
  wrote_byte x = record { place = refl; bytes = sym (put_one s at x) }

  -- one text, and another behind it
  pub wrote_then : (x y t u : List ℕ) (p q : ℕ) → Printed s at x t p → Printed t p y u q → Printed s at (x ++ y) u q
  wrote_then x y t u p q a b =
      record {
        place = simp length-append (omega (arith, a.place, b.place));
        bytes =
            b.bytes
            ∙ ap (λ (l : List ℕ). put l p y) a.bytes
            ∙ ap (λ (k : ℕ). put (put s at x) k y) a.place
            ∙ sym (put_append s at x y);
      }

  pub wrote_same : (x y t : List ℕ) (p : ℕ) → Printed s at x t p → x ≡ y → Printed s at y t p
  wrote_same x y t p w e = record { place = w.place ∙ ap (λ (l : List ℕ). at + length l) e; bytes = w.bytes ∙ ap (put s at) e }

-- ---- `push`

pub wrote_copy : (s : List ℕ) (at : ℕ) (x t : List ℕ) → t ≡ put s at (bytes_at x 0 (length x)) → Printed s at x t (at + length x)
wrote_copy s at x t e = record { place = refl; bytes = e ∙ ap (put s at) (whole x) }

-- ---- `push_shown`: most and n stand first, for a caller to name

module _ (most n : ℕ) where
  pub room_one : (at : ℕ) (s : List ℕ) → (most ≡ 0 → ⊥) → n < 10 → at + length (shown most n) ≤ length s → at < length s
  room_one at s f h r =
      let e : length (shown most n) ≡ 1 = ap (λ (l : List ℕ). length l) (shown_one most n f h) in
      omega arith

  more_length : (most ≡ 0 → ⊥) → 10 ≤ n → length (shown most n) ≡ length (shown (most - 1) (n / 10)) + 1
  more_length f h = ap (λ (l : List ℕ). length l) (shown_more most n f h) ∙ length-append (shown (most - 1) (n / 10)) (digit (n % 10) ∷ [])

  pub room_front : (at : ℕ) (s : List ℕ) → (most ≡ 0 → ⊥) → 10 ≤ n → at + length (shown most n) ≤ length s
      → at + length (shown (most - 1) (n / 10)) ≤ length s
  room_front at s f h r = omega (arith, more_length f h)

  pub room_last : (at : ℕ) (s t : List ℕ) (end : ℕ) → (most ≡ 0 → ⊥) → 10 ≤ n → at + length (shown most n) ≤ length s
      → Printed s at (shown (most - 1) (n / 10)) t end → end < length t
  room_last at s t end f h r w =
      let e : length t ≡ length s = ap (λ (l : List ℕ). length l) w.bytes ∙ length_put s at (shown (most - 1) (n / 10)) in
      omega (arith, more_length f h, w.place)

  pub last_fits : (at : ℕ) (s t : List ℕ) (end : ℕ) → (most ≡ 0 → ⊥) → 10 ≤ n → at + length (shown most n) ≤ length s
      → Printed s at (shown (most - 1) (n / 10)) t end → length s < 2 ^ 64 → Fits w64 (end + 1)
  last_fits at s t end f h r w l = omega (arith, more_length f h, w.place)

  module _ (s : List ℕ) (at : ℕ) where
    pub wrote_none : most ≡ 0 → Printed s at (shown most n) s at
    wrote_none e = wrote_same s at [] (shown most n) s at (wrote_nil s at) (sym (shown_none most n e))

    pub wrote_one : (d : ℕ) → (most ≡ 0 → ⊥) → n < 10 → d ≡ digit n → Printed s at (shown most n) (set s at d) (at + 1)
    wrote_one d f h e =
        wrote_same s at (d ∷ []) (shown most n) (set s at d) (at + 1) (wrote_byte s at d)
        (ap (λ (x : ℕ). x ∷ []) e ∙ sym (shown_one most n f h))

    pub wrote_more : (t : List ℕ) (end d : ℕ) → (most ≡ 0 → ⊥) → 10 ≤ n → Printed s at (shown (most - 1) (n / 10)) t end → d ≡ digit (n % 10)
        → Printed s at (shown most n) (set t end d) (end + 1)
    wrote_more t end d f h w e =
        let front = shown (most - 1) (n / 10) in
        wrote_same s at (front ++ (d ∷ [])) (shown most n) (set t end d) (end + 1)
        (wrote_then s at front (d ∷ []) t (set t end d) end (end + 1) w (wrote_byte t end d))
        (ap (λ (x : ℕ). front ++ (x ∷ [])) e ∙ sym (shown_more most n f h))

    -- ---- `push_decimal`
    pub wrote_decimal : (t : List ℕ) (end : ℕ) → 0 < most → most ≤ 20 → n < 10 ^ most → Printed s at (shown most n) t end → Printed s at (decimal n) t end
    wrote_decimal t end z l h w = wrote_same s at (shown most n) (decimal n) t end w (shown_most most 20 n z l h)

    pub decimal_end : (t : List ℕ) (end : ℕ) → Printed s at (shown most n) t end → end ≤ at + most
    decimal_end t end w = omega (arith, w.place, length_shown most n)

  pub decimal_room : (at : ℕ) (s : List ℕ) → at + most ≤ length s → at + length (shown most n) ≤ length s
  decimal_room at s r = omega (arith, length_shown most n)

-- ---- `push_hex4`

module _ (s : List ℕ) (at : ℕ) where
  next_byte : (x t : List ℕ) (p q d : ℕ) → Printed s at x t p → q ≡ p + 1 → Printed s at (x ++ (d ∷ [])) (set t p d) q
  next_byte x t p q d w e = wrote_then s at x (d ∷ []) t (set t p d) p q w (record { place = e; bytes = sym (put_one t p d) })

  pub wrote_hex : (n a b c d : ℕ) → a ≡ digit (n / 4096 % 16) → b ≡ digit (n / 256 % 16) → c ≡ digit (n / 16 % 16) → d ≡ digit (n % 16)
      → Printed s at (hex4 n) (set (set (set (set s at a) (at + 1) b) (at + 2) c) (at + 3) d) (at + 4)
  wrote_hex n a b c d p q r u =
      let first = wrote_byte s at a in
      let second = next_byte (a ∷ []) (set s at a) (at + 1) (at + 2) b first (omega arith) in
      let third = next_byte (a ∷ b ∷ []) (set (set s at a) (at + 1) b) (at + 2) (at + 3) c second (omega arith) in
      let fourth =
      next_byte (a ∷ b ∷ c ∷ []) (set (set (set s at a) (at + 1) b) (at + 2) c) (at + 3) (at + 4) d third (omega arith) in
      wrote_same s at (a ∷ b ∷ c ∷ d ∷ []) (hex4 n) _ (at + 4) fourth (rw (p, q, r, u))
