-- A mark written again, and a mark written as it is. Assumes nothing.
use mathlib.Core.Path.{◌≡◌, sym, ap, ap₂, ◌∙◌}
use mathlib.Core.Bool.{true, false}
use mathlib.Core.List.{List}
use Prim.Native.Nat.{ℕ, ◌+◌, ◌-◌, ◌*◌, ◌/◌, ◌%◌, ◌^◌, ◌<◌}
use native.Mathlib.Omega.{arith}
use lib.ListN.{length, get_or, set}
use lib.Pow.{split, mod-pow-add}
use lib.Seq.{get_or-set_same, set-set, set-get_or}
use borrow.Author.Tests.{eqb-true, eqb-false}
use Rattle.octets.specs.Bits.{bit, ins, set_bit, put_bits}
use Rattle.octets.proofs.Bits.{bit_lt, ins_low, ins_high, bit_front}
use Rattle.store.specs.declared.Layout.{Layout}
use Rattle.store.specs.Layout.{Sound}
use Rattle.store.specs.Header.{header, is_taken}
use Rattle.store.specs.Store.{put_taken}

ins_again : (x k b c : ℕ) → ins (ins x k 1 b) k 1 c ≡ ins x k 1 c
unfolding ins
ins_again x k b c = ap₂ (λ (y z : ℕ). y * 2 ^ (k + 1) + c % 2 ^ 1 * 2 ^ k + z) (ins_high x k 1 b) (ins_low x k 1 b)

ins_same : (x k b : ℕ) → x / 2 ^ k % 2 ≡ b % 2 → ins x k 1 b ≡ x
unfolding ins
ins_same x k b e =
    let c : 1 + k ≡ k + 1 = omega arith in
    let p : x % 2 ^ (k + 1) ≡ x / 2 ^ k % 2 ^ 1 * 2 ^ k + x % 2 ^ k = ap (λ (m : ℕ). x % 2 ^ m) (sym c) ∙ mod-pow-add x 1 k in
    let q : x / 2 ^ k % 2 ^ 1 * 2 ^ k ≡ b % 2 ^ 1 * 2 ^ k = ap (λ (y : ℕ). y * 2 ^ k) e in
    omega (arith, split x (k + 1))

bit_again : (s : List ℕ) (j b c : ℕ) → j < 8 * length s → set_bit (set_bit s j b) j c ≡ set_bit s j c
unfolding set_bit
bit_again s j b c h =
    let i = j / 8 in
    let k = 7 - j % 8 in
    let y = ins (get_or s i 0) k 1 b in
    ap (λ (x : ℕ). set (set s i y) i (ins x k 1 c)) (get_or-set_same s i y 0 (omega arith)) ∙ set-set s i y (ins y k 1 c) ∙ ap (set s i) (ins_again (get_or s i 0) k b c)

bit_as_was : (s : List ℕ) (j b : ℕ) → bit s j ≡ b % 2 → set_bit s j b ≡ s
unfolding set_bit bit
bit_as_was s j b e = ap (set s (j / 8)) (ins_same (get_or s (j / 8) 0) (7 - j % 8) b e) ∙ set-get_or s (j / 8) 0

module _ (l : Layout) (so : Sound l) (s : List ℕ) (a : ℕ) (la : a < l.slots) where
  abbrev at : ℕ
  at = 8 * l.taken_at + a

  mark_bit : (t : List ℕ) (b : ℕ) → put_taken l t a b ≡ set_bit t at b
  unfolding put_taken put_bits
  mark_bit t b = let e : at + 0 ≡ at = omega arith in ap (λ (n : ℕ). set_bit t n b) e

  -- the later of two marks counts
  pub mark_again : (b c : ℕ) → length s ≡ l.size → put_taken l (put_taken l s a b) a c ≡ put_taken l s a c
  mark_again b c long =
      let k : at < 8 * length s = omega (arith, so.marks, so.guests_fit, so.whole, long) in
      mark_bit (put_taken l s a b) c ∙ ap (λ (t : List ℕ). set_bit t at c) (mark_bit s b) ∙ bit_again s at b c k ∙ sym (mark_bit s c)

  -- a mark cleared where there is none, or set where there is one
  pub mark_none : is_taken l (header l s) a ≡ false → put_taken l s a 0 ≡ s
  unfolding is_taken header
  mark_none t =
      let k : at < 8 * l.guests_at = omega (arith, so.marks) in
      let n : bit s at ≡ 1 → ⊥ = λ z. eqb-false _ _ t (bit_front s l.guests_at at k ∙ z) in
      let e : bit s at ≡ 0 = omega (arith, n, bit_lt s at) in
      mark_bit s 0 ∙ bit_as_was s at 0 e

  pub mark_there : is_taken l (header l s) a ≡ true → put_taken l s a 1 ≡ s
  unfolding is_taken header
  mark_there t =
      let k : at < 8 * l.guests_at = omega (arith, so.marks) in
      mark_bit s 1 ∙ bit_as_was s at 1 (sym (bit_front s l.guests_at at k) ∙ eqb-true _ _ t)
