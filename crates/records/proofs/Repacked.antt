-- A record that is read, packed again, is its bytes: it has one form. Assumes nothing.
use mathlib.Core.Path.{◌≡◌, refl, sym, ap, ap₂, ◌∙◌}
use mathlib.Core.Bool.{Bool, true, false, ◌&&◌, cond, true≢false}
use mathlib.Core.List.{List, ◌++◌}
use Prim.Native.Nat.{ℕ, ◌+◌, ◌^◌, ◌≤◌, ◌<◌}
use native.Mathlib.Omega.{arith}
use native.Mathlib.Nat.{add-zero}
use lib.Dec.{leb, eqb}
use lib.ListN.{length, get_or, drop, take-append-drop}
use borrow.Author.Tests.{lt-ltb, eqb-true}
use Rattle.octets.specs.Bytes.{bytes_at, digits}
use Rattle.octets.specs.Bits.{bits}
use Rattle.octets.proofs.Bytes.{length_bytes_at, part_append}
use Rattle.octets.proofs.Numbers.{digits_be}
use Rattle.octets.proofs.Bits.{bits_lt, bits_add, bits_be}
use Rattle.records.specs.declared.Head.{Head}
use Rattle.std.specs.Prelude.{Ok, Err}
use Rattle.records.specs.declared.Unread.TheVariants.{Cut, Bad}
use Rattle.records.specs.Record.{is_kind, head_at, padding, record_at, record_length, head_good, read_head}
use Rattle.records.specs.Write.{head_of, head_number, packed, fits_head, fits_record, Words}
use Rattle.records.specs.Replay.{is_record}
use Rattle.records.proofs.Played.{head_fits, whole}

-- ---- the head's number
all_bits : (b : List ℕ) → padding b 0 ≡ 0 → head_number (head_at b 0) ≡ bits b 0 248
unfolding head_number head_at padding
all_bits b e =
    let e₁ = bits_add b 0 242 6 in
    let e₂ = bits_add b 0 225 17 in
    let e₃ = bits_add b 0 208 17 in
    let e₄ = bits_add b 0 196 12 in
    let e₅ = bits_add b 0 132 64 in
    let e₆ = bits_add b 0 68 64 in
    let e₇ = bits_add b 0 4 64 in
    sym (rw (e₁, e, e₂, e₃, e₄, e₅, e₆, e₇) (add-zero _))

-- ---- the record at the first byte
both : (a b : Bool) → (a && b) ≡ true → (a ≡ true) × (b ≡ true)
both true b q = (refl, q)
both false b q = absurd (true≢false (sym q))

module _ (b : List ℕ) (h : Head) (e : read_head b 0 ≡ Ok h) where
  good_head : head_good b 0 ≡ true
  unfolding read_head
  good_head = go (leb 31 (length b)) (head_good b 0) (leb (0 + record_length (head_at b 0)) (length b)) (ap is_record e)
    where
      go : (x y z : Bool) → is_record (cond x (cond y (cond z (Ok (head_at b 0)) (Err Cut)) (Err Bad)) (Err Cut)) ≡ true → y ≡ true
      go true true z f = refl
      go true false z f = f
      go false y z f = absurd (true≢false (sym f))

  in_parts : (is_kind (head_at b 0).kind ≡ true) × (eqb (padding b 0) 0 ≡ true)
  unfolding head_good
  in_parts = both (is_kind (head_at b 0).kind) (eqb (padding b 0) 0) good_head

  room : record_length (head_at b 0) ≤ length b
  room = let i = whole b 0 h e in omega (arith, ap (λ (x : Head). record_length x) i.is, i.inside)

  same_head : head_of (record_at b 0) ≡ head_at b 0
  unfolding record_at
  same_head =
      let x = head_at b 0 in
      let d = length_bytes_at b 31 (head_at b 0).data_len (omega (arith, room)) in
      let f = length_bytes_at b (31 + (head_at b 0).data_len) (head_at b 0).effect_len (omega (arith, room)) in
      ap₂ {A = ℕ} {B = ℕ} {C = Head} (λ m n. record { kind = x.kind; flags = x.flags; guest = x.guest; number = x.number; exit_reason = x.exit_reason; data_len = m; effect_len = n }) d f

  head_bytes : ((k : ℕ) → get_or b k 0 < 256) → digits 31 (head_number (head_at b 0)) ≡ bytes_at b 0 31
  head_bytes small =
      let each : (k : ℕ) → k < 31 → get_or b (0 + k) 0 < 256 = λ k l. small (0 + k) in
      ap (digits 31) (all_bits b (eqb-true (padding b 0) 0 in_parts.1) ∙ bits_be b 0 31 each)
      ∙ digits_be b 0 31 each (omega (arith, room))

  pub repacked : ((k : ℕ) → get_or b k 0 < 256) → packed (record_at b 0) ++ drop (record_length (head_at b 0)) b ≡ b
  unfolding packed record_at bytes_at
  repacked small =
      let d = (head_at b 0).data_len in
      let f = (head_at b 0).effect_len in
      let rest = drop (record_length (head_at b 0)) b in
      let sum : 31 + ((head_at b 0).data_len + (head_at b 0).effect_len) ≡ record_length (head_at b 0) = omega arith in
      ap (λ (x : List ℕ). (x ++ (bytes_at b 31 d ++ bytes_at b (31 + d) f)) ++ rest) (ap (λ (x : Head). digits 31 (head_number x)) same_head ∙ head_bytes small)
      ∙ ap (λ (x : List ℕ). (bytes_at b 0 31 ++ x) ++ rest) (sym (part_append b 31 d f))
      ∙ ap (λ (x : List ℕ). x ++ rest) (sym (part_append b 0 31 (d + f)) ∙ ap (bytes_at b 0) sum)
      ∙ take-append-drop (record_length (head_at b 0)) b

  exit_fits_lem : (head_at b 0).exit_reason < 2 ^ 12
  unfolding head_at
  exit_fits_lem = bits_lt b 196 12

  pub read_fits : fits_record (record_at b 0) ≡ true
  unfolding fits_head
  read_fits =
      ap fits_head same_head
      ∙ simp (in_parts.0, lt-ltb _ _ exit_fits_lem, lt-ltb _ _ (head_fits b 0).0, lt-ltb _ _ (head_fits b 0).1)

  pub read_words : Words (record_at b 0)
  unfolding record_at head_at
  read_words = record { flags_fit = bits_lt b 4 64; guest_fits = bits_lt b 68 64; number_fits = bits_lt b 132 64 }
