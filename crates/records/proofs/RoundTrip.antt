-- A packed record is read as it was: its fields are digits of its head's number. Assumes nothing.
use mathlib.Core.Path.{◌≡◌, refl, sym, ap, ap₂, ◌∙◌, subst}
use mathlib.Core.Bool.{Bool, true, false, not}
use mathlib.Core.List.{List, [], ◌∷◌, ◌++◌, append_assoc}
use Prim.Native.Nat.{ℕ, ◌+◌, ◌*◌, ◌/◌, ◌%◌, ◌^◌, ◌≤◌, ◌<◌}
use native.Mathlib.Omega.{arith}
use native.Mathlib.Nat.{add-zero, zero-add, mod-eq_of_lt}
use lib.Dec.{ltb}
use lib.ListN.{length, get_or, drop, length-append}
use lib.Pow.{shl-shr, shr-shr, high, low, field, mod-mod-pow}
use borrow.Author.Tests.{le-leb, ltb-false}
use Rattle.octets.specs.Bytes.{bytes_at, put, digits}
use Rattle.octets.specs.Bits.{bits}
use Rattle.octets.proofs.Numbers.{length_digits, digits_lt, be_of_digits}
use Rattle.octets.proofs.Bits.{bits_within, bits_be}
use Rattle.answer.specs.declared.RunBuffer.TheVariants.{Output}
use Rattle.answer.specs.declared.Fault.TheVariants.{None, Short, Record as BadRecord}
use Rattle.answer.specs.Refusals.{first_of}
use Rattle.l0.specs.Numbered.{CallRecord}
use Rattle.records.specs.declared.Head.{Head}
use Rattle.records.specs.Record.{head_at, padding, record_at}
use Rattle.records.specs.Write.{head_of, head_number, packed, fits_record, Written, unwritten, write_record, Words, ReadAs, RoundTrip}
use Rattle.records.specs.Private.{Narrow, Heads}
use Rattle.records.proofs.Appended.{put_first, part_first, bits_first, part_second, bits_second}
use Rattle.records.proofs.Tests.{accepted}
use Rattle.records.proofs.Packed.{length_packed}
use Rattle.records.proofs.WriteLaws.{narrow, kind_held}

-- ---- a field of a number's 31 bytes: r bits before it, w in it, t behind it
digits_field : (v r w t : ℕ) → r + (w + t) ≡ 248 → bits (digits 31 v) r w ≡ v / 2 ^ t % 2 ^ w
digits_field v r w t e =
    let f : 248 ≡ r + w + t = omega arith in
    let small : (k : ℕ) → k < 31 → get_or (digits 31 v) (0 + k) 0 < 256 = λ k l. rw (zero-add k) (digits_lt 31 v k l) in
    let all : bits (digits 31 v) 0 (r + (w + t)) ≡ v % 2 ^ (r + w + t) =
    ap (bits (digits 31 v) 0) e ∙ bits_be (digits 31 v) 0 31 small ∙ be_of_digits 31 v ∙ ap (λ (m : ℕ). v % 2 ^ m) f in
    ap (λ (i : ℕ). bits (digits 31 v) i w) (sym (zero-add r))
    ∙ sym (bits_within (digits 31 v) 0 r w t)
    ∙ ap (λ (x : ℕ). x / 2 ^ t % 2 ^ w) all
    ∙ ap (λ (x : ℕ). x % 2 ^ w) (field v (r + w) t)
    ∙ mod-mod-pow (v / 2 ^ t) r w

-- ---- digits of v, of which x are the w from digit t up
module _ (v t w hi : ℕ) {x : ℕ} (e : v / 2 ^ t ≡ hi * 2 ^ w + x) (l : x < 2 ^ w) where
  those : v / 2 ^ t % 2 ^ w ≡ x
  those = ap (λ (y : ℕ). y % 2 ^ w) e ∙ low hi w l

  above : v / 2 ^ (t + w) ≡ hi
  above = sym (shr-shr v t w) ∙ ap (λ (y : ℕ). y / 2 ^ w) e ∙ high hi w l

-- ---- a head's number, up to each field
abbrev to_flags : Head → ℕ
to_flags h = h.kind * 2 ^ 64 + h.flags

abbrev to_guest : Head → ℕ
to_guest h = to_flags h * 2 ^ 64 + h.guest

abbrev to_number : Head → ℕ
to_number h = to_guest h * 2 ^ 64 + h.number

abbrev to_exit : Head → ℕ
to_exit h = to_number h * 2 ^ 12 + h.exit_reason

abbrev to_data : Head → ℕ
to_data h = to_exit h * 2 ^ 17 + h.data_len

-- its bits, from the last on
module _ (h : Head) (n : Narrow h) (hf : h.flags < 2 ^ 64) (hg : h.guest < 2 ^ 64) (hn : h.number < 2 ^ 64) where
  from_6 : head_number h / 2 ^ 6 ≡ to_data h * 2 ^ 17 + h.effect_len
  unfolding head_number
  from_6 = shl-shr (to_data h * 2 ^ 17 + h.effect_len) 6

  from_23 : head_number h / 2 ^ 23 ≡ to_data h
  from_23 = above (head_number h) 6 17 (to_data h) from_6 n.effect_fits

  from_40 : head_number h / 2 ^ 40 ≡ to_exit h
  from_40 = above (head_number h) 23 17 (to_exit h) from_23 n.data_fits

  from_52 : head_number h / 2 ^ 52 ≡ to_number h
  from_52 = above (head_number h) 40 12 (to_number h) from_40 n.exit_fits

  from_116 : head_number h / 2 ^ 116 ≡ to_guest h
  from_116 = above (head_number h) 52 64 (to_guest h) from_52 hn

  from_180 : head_number h / 2 ^ 180 ≡ to_flags h
  from_180 = above (head_number h) 116 64 (to_flags h) from_116 hg

  from_244 : head_number h / 2 ^ 244 ≡ h.kind
  from_244 = above (head_number h) 180 64 h.kind from_180 hf

six_zeros : (x : ℕ) → x * 2 ^ 6 / 2 ^ 0 % 2 ^ 6 ≡ 0
six_zeros x = omega arith

no_padding : (h : Head) → head_number h / 2 ^ 0 % 2 ^ 6 ≡ 0
unfolding head_number
no_padding h = six_zeros (to_data h * 2 ^ 17 + h.effect_len)

-- ---- the packed record among other bytes
abbrev among : CallRecord → List ℕ → List ℕ → List ℕ
among r p z = p ++ (packed r ++ z)

module _ (r : CallRecord) (p z : List ℕ) where
  in_head : (a n : ℕ) → a + n ≤ 248 → bits (among r p z) (8 * length p + a) n ≡ bits (digits 31 (head_number (head_of r))) a n
  unfolding packed
  in_head a n h =
      let v = head_number (head_of r) in
      bits_second p (packed r ++ z) a n
      ∙ bits_first (packed r) z a n (omega (arith, length_packed r))
      ∙ bits_first (digits 31 v) (r.«data» ++ r.effect) a n (omega (arith, length_digits 31 v))

  -- the w bits from bit a on are x, where the head's number has them from digit t up
  reads : (a w t : ℕ) {x : ℕ} → a + (w + t) ≡ 248 → head_number (head_of r) / 2 ^ t % 2 ^ w ≡ x → bits (among r p z) (8 * length p + a) w ≡ x
  reads a w t e f = in_head a w (omega arith) ∙ digits_field (head_number (head_of r)) a w t e ∙ f

  behind_head : (i n : ℕ) → bytes_at (among r p z) (length p + 31 + i) n ≡ bytes_at (r.«data» ++ (r.effect ++ z)) i n
  unfolding packed
  behind_head i n =
      let d = digits 31 (head_number (head_of r)) in
      let e : length p + 31 + i ≡ length (p ++ digits 31 (head_number (head_of r))) + i = omega (arith, length-append p d, length_digits 31 (head_number (head_of r))) in
      let f : among r p z ≡ (p ++ digits 31 (head_number (head_of r))) ++ (r.«data» ++ (r.effect ++ z)) = simp append_assoc in
      ap₂ (λ (b : List ℕ) (j : ℕ). bytes_at b j n) f e ∙ part_second (p ++ d) (r.«data» ++ (r.effect ++ z)) i n

  its_data : bytes_at (among r p z) (length p + 31) (length r.«data») ≡ r.«data»
  its_data =
      ap (λ (i : ℕ). bytes_at (among r p z) i (length r.«data»)) (sym (add-zero (length p + 31)))
      ∙ behind_head 0 (length r.«data»)
      ∙ part_first r.«data» (r.effect ++ z)

  its_effect : bytes_at (among r p z) (length p + 31 + length r.«data») (length r.effect) ≡ r.effect
  its_effect =
      behind_head (length r.«data») (length r.effect)
      ∙ ap (λ (i : ℕ). bytes_at (r.«data» ++ (r.effect ++ z)) i (length r.effect)) (sym (add-zero (length r.«data»)))
      ∙ part_second r.«data» (r.effect ++ z) 0 (length r.effect)
      ∙ part_first r.effect z

  module _ (n : Narrow (head_of r)) (w : Words r) where
    its_head : head_at (among r p z) (length p) ≡ head_of r
    unfolding head_at
    its_head =
        let h = head_of r in
        let v = head_number (head_of r) in
        let f = w.flags_fit in
        let g = w.guest_fits in
        let m = w.number_fits in
        let at : 8 * length p ≡ 8 * length p + 0 = omega arith in
        let e₁ : bits (among r p z) (8 * length p) 4 ≡ r.kind =
        ap (λ (i : ℕ). bits (among r p z) i 4) at ∙ reads 0 4 244 refl (ap (λ (x : ℕ). x % 2 ^ 4) (from_244 h n f g m) ∙ mod-eq_of_lt n.kind_fits) in
        let e₂ : bits (among r p z) (8 * length p + 4) 64 ≡ r.flags = reads 4 64 180 refl (those v 180 64 r.kind (from_180 h n f g m) f) in
        let e₃ : bits (among r p z) (8 * length p + 68) 64 ≡ r.guest = reads 68 64 116 refl (those v 116 64 (to_flags h) (from_116 h n f g m) g) in
        let e₄ : bits (among r p z) (8 * length p + 132) 64 ≡ r.number = reads 132 64 52 refl (those v 52 64 (to_guest h) (from_52 h n f g m) m) in
        let e₅ : bits (among r p z) (8 * length p + 196) 12 ≡ r.exit = reads 196 12 40 refl (those v 40 12 (to_number h) (from_40 h n f g m) n.exit_fits) in
        let e₆ : bits (among r p z) (8 * length p + 208) 17 ≡ length r.«data» = reads 208 17 23 refl (those v 23 17 (to_exit h) (from_23 h n f g m) n.data_fits) in
        let e₇ : bits (among r p z) (8 * length p + 225) 17 ≡ length r.effect = reads 225 17 6 refl (those v 6 17 (to_data h) (from_6 h n f g m) n.effect_fits) in
        rw (e₁, e₂, e₃, e₄, e₅, e₆, e₇)

    its_padding : padding (among r p z) (length p) ≡ 0
    unfolding padding
    its_padding = reads 242 6 0 refl (no_padding (head_of r))

    its_record : record_at (among r p z) (length p) ≡ r
    unfolding record_at
    its_record = rw (its_head, its_data, its_effect)

pub record_round_trip : (r : CallRecord) → fits_record r ≡ true → Words r → RoundTrip r
record_round_trip r fits w p z =
    let n = narrow (head_of r) true (sym fits) refl in
    let size : length (among r p z) ≡ length p + (31 + length r.«data» + length r.effect + length z) =
    omega (arith, length-append p (packed r ++ z), length-append (packed r) z, length_packed r) in
    let uncut : length p + 31 ≤ length (among r p z) = omega arith in
    let inside : length p + (31 + length r.«data» + length r.effect) ≤ length (among r p z) = omega arith in
    let heads : Heads (among r p z) (length p) (head_of r) = record { is = sym (its_head r p z n w); data_fits = n.data_fits; effect_fits = n.effect_fits } in
    record {
      head =
          sym
          (accepted (among r p z) (length p) true true true (head_of r) 0 (sym (le-leb _ _ uncut)) refl heads (sym (kind_held (head_of r) fits)) refl
          (sym (its_padding r p z n w)) refl (sym (le-leb _ _ inside)) refl);
      whole = its_record r p z n w;
    }

-- ---- what is written is read at the first byte
pub written_read : (b : List ℕ) (r : CallRecord) → Words r → (write_record b r).answer.fault ≡ None → ReadAs (write_record b r).bytes 0 r
unfolding write_record
written_read b r w = go (fits_record r) (ltb (length b) (length (packed r))) refl refl
  where
    left : Bool → Bool → Written
    left s t =
        first_of (unwritten b) ((not s, BadRecord 0) ∷ (t, Short Output) ∷ [])
        (record { answer = record { fault = None; value = length (packed r) }; bytes = put b 0 (packed r) })

    go : (s t : Bool) → fits_record r ≡ s → ltb (length b) (length (packed r)) ≡ t → (left s t).answer.fault ≡ None → ReadAs (left s t).bytes 0 r
    go false t p q e = let z : ◌≡◌ {A = ℕ} 0 1 = cc in absurd (omega arith)
    go true true p q e = let z : ◌≡◌ {A = ℕ} 0 1 = cc in absurd (omega arith)
    go true false p q e = subst (λ (l : List ℕ). ReadAs l 0 r) (sym (put_first b (packed r) (ltb-false _ _ q))) (record_round_trip r p w [] (drop (length (packed r)) b))
