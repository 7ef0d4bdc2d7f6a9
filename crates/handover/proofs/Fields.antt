-- The head of a form: its fields, one behind the other. Assumes nothing.
use mathlib.Core.Path.{◌≡◌, refl, sym, ap, ap₂, ◌∙◌}
use mathlib.Core.Bool.{true}
use mathlib.Core.List.{List}
use Prim.Native.Nat.{ℕ, ◌+◌, ◌^◌, ◌≤◌, ◌<◌}
use native.Mathlib.Nat.{mod-eq_of_lt}
use native.Mathlib.Omega.{arith}
use lib.Dec.{eqb, lit<}
use lib.ListN.{length, get_or}
use borrow.Author.Tests.{eq-eqb, eqb-true}
use Rattle.octets.specs.Bytes.{bytes_at, be, digits}
use Rattle.octets.specs.Bits.{bits}
use Rattle.octets.proofs.Bytes.{get_or_bytes_at}
use Rattle.octets.proofs.Numbers.{length_digits, be_part, be_of_digits, digits_be, digits_lt}
use Rattle.octets.proofs.Bits.{bits_lt, bits_add, bits_be}
use Rattle.handover.specs.Form.{behind, head, opens}
use Rattle.handover.proofs.Values.{both}
use Rattle.handover.proofs.Presence.{behind_same, behind_lt}

-- ---- the fields
pub record Fields (b : List ℕ) (vcpu m : ℕ) : Type 0 where
  pub version : bits b 0 4 ≡ 1
  pub named : bits b 4 11 ≡ vcpu
  pub clear : bits b 15 1 ≡ 0
  pub shown : bits b 16 170 ≡ m
  pub padded : bits b 186 6 ≡ 0

fields_number : (b : List ℕ) → bits b 0 192 ≡ behind (behind (behind (behind (bits b 0 4) 11 (bits b 4 11)) 1 (bits b 15 1)) 170 (bits b 16 170)) 6 (bits b 186 6)
fields_number b =
    bits_add b 0 186 6
    ∙ ap (λ (x : ℕ). behind x 6 (bits b 186 6))
    (bits_add b 0 16 170
    ∙ ap (λ (x : ℕ). behind x 170 (bits b 16 170)) (bits_add b 0 15 1 ∙ ap (λ (x : ℕ). behind x 1 (bits b 15 1)) (bits_add b 0 4 11)))

number_lt : (vcpu m : ℕ) → vcpu < 2 ^ 11 → m < 2 ^ 170 → behind (behind (behind (behind 1 11 vcpu) 1 0) 170 m) 6 0 < 2 ^ 192
number_lt vcpu m h l = behind_lt 186 6 _ 0 (behind_lt 16 170 _ m (behind_lt 15 1 _ 0 (behind_lt 4 11 1 vcpu (lit< tt) h) (lit< tt)) l) (lit< tt)

pub length_head : (vcpu m : ℕ) → length (head vcpu m) ≡ 24
unfolding head
length_head vcpu m = length_digits 24 _

module _ (b : List ℕ) (vcpu m : ℕ) where
  pub head_read : bytes_at b 0 24 ≡ head vcpu m → vcpu < 2 ^ 11 → m < 2 ^ 170 → Fields b vcpu m
  unfolding head
  head_read e h l =
      let n = behind (behind (behind (behind 1 11 vcpu) 1 0) 170 m) 6 0 in
      let r : be b 0 24 ≡ n =
      sym (be_part b 0 24 0 24 (omega arith)) ∙ ap (λ (x : List ℕ). be x 0 24) e ∙ be_of_digits 24 n ∙ mod-eq_of_lt (number_lt vcpu m h l) in
      let small : (k : ℕ) → k < 24 → get_or b (0 + k) 0 < 256 =
      λ k j. rw (← get_or_bytes_at b 0 24 k j) (rw e (digits_lt 24 n k j)) in
      let q = sym (fields_number b) ∙ bits_be b 0 24 small ∙ r in
      let a = behind_same 6 _ _ _ _ q (bits_lt b 186 6) (omega arith) in
      let c = behind_same 170 _ _ _ _ a.0 (bits_lt b 16 170) l in
      let d = behind_same 1 _ _ _ _ c.0 (bits_lt b 15 1) (omega arith) in
      let f = behind_same 11 _ _ _ _ d.0 (bits_lt b 4 11) h in
      record { version = f.0; named = f.1; clear = d.1; shown = c.1; padded = a.1 }

  pub head_write : Fields b vcpu m → 24 ≤ length b → ((k : ℕ) → get_or b k 0 < 256) → bytes_at b 0 24 ≡ head vcpu m
  unfolding head
  head_write f l h =
      sym (digits_be b 0 24 (λ k j. h (0 + k)) l)
      ∙ ap (digits 24)
      (sym (bits_be b 0 24 (λ k j. h (0 + k))) ∙ fields_number b
      ∙ ap₂ (λ (x y : ℕ). behind x 6 y)
      (ap₂ (λ (x y : ℕ). behind x 170 y) (ap₂ (λ (x y : ℕ). behind x 1 y) (ap₂ (λ (x y : ℕ). behind x 11 y) f.version f.named) f.clear) f.shown)
      f.padded)

-- ---- as they are tested
pub opens_fields : (b : List ℕ) (vcpu : ℕ) → opens vcpu b ≡ true → Fields b vcpu (bits b 16 170)
unfolding opens
opens_fields b vcpu h =
    let p = both (eqb (bits b 0 4) 1) _ h in
    let q = both (eqb (bits b 4 11) vcpu) _ p.1 in
    let r = both (eqb (bits b 15 1) 0) _ q.1 in
    record {
      version = eqb-true _ _ p.0;
      named = eqb-true _ _ q.0;
      clear = eqb-true _ _ r.0;
      shown = refl;
      padded = eqb-true _ _ r.1;
    }

pub fields_open : (b : List ℕ) (vcpu m : ℕ) → Fields b vcpu m → opens vcpu b ≡ true
unfolding opens
fields_open b vcpu m f = simp (eq-eqb _ _ f.version, eq-eqb _ _ f.named, eq-eqb _ _ f.clear, eq-eqb _ _ f.padded)
