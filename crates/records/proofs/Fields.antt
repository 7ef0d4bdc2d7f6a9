-- A head's fields as digits of its three words and seven bytes. Assumes nothing.
use mathlib.Core.Path.{◌≡◌, refl, sym, ap, ap₂, ◌∙◌}
use mathlib.Core.List.{List}
use Prim.Native.Nat.{ℕ, ◌+◌, ◌*◌, ◌/◌, ◌%◌, ◌^◌}
use native.Mathlib.Omega.{arith}
use native.Mathlib.Nat.{mod-lt}
use mir.Syntax.{w8}
use mir.Val.{Fits}
use lib.Dec.{lit<}
use lib.ListN.{get_or}
use lib.Pow.{high, low}
use Rattle.octets.specs.Bytes.{be}
use Rattle.octets.specs.Bits.{bits}
use Rattle.octets.proofs.Bits.{bits_lt, bits_add, bits_within, bits_be}
use Rattle.records.specs.Record.{head_at, padding}
use Rattle.records.specs.Private.{Heads}

module _ (s : List ℕ) (small : (k : ℕ) → Fits w8 (get_or s k 0)) where
  as_bits : (p n : ℕ) → be s p n ≡ bits s (8 * p) (8 * n)
  as_bits p n = sym (bits_be s p n (λ k h. (small (p + k)).fits))

  -- the first four bits of m + 4, and the others
  first_four : (p m x : ℕ) → x ≡ bits s (8 * p) (4 + m) → x / 2 ^ m ≡ bits s (8 * p) 4
  first_four p m x e = ap (λ (z : ℕ). z / 2 ^ m) (e ∙ bits_add s (8 * p) 4 m) ∙ high (bits s (8 * p) 4) m (bits_lt s (8 * p + 4) m)

  others : (p m x : ℕ) → x ≡ bits s (8 * p) (4 + m) → x % 2 ^ m ≡ bits s (8 * p + 4) m
  others p m x e = ap (λ (z : ℕ). z % 2 ^ m) (e ∙ bits_add s (8 * p) 4 m) ∙ low (bits s (8 * p) 4) m (bits_lt s (8 * p + 4) m)

  across : (p a x d : ℕ) → a ≡ 8 * p + 4 → x ≡ be s p 8 → d ≡ bits s (8 * (p + 8)) 4 → x % 2 ^ 60 * 16 + d ≡ bits s a 64
  across p a x d q e f =
      let g : 8 * (p + 8) ≡ 8 * p + 4 + 60 = omega arith in
      ap₂ (λ (y z : ℕ). y * 16 + z) (others p 60 x (e ∙ as_bits p 8)) (f ∙ ap (λ (i : ℕ). bits s i 4) g)
      ∙ sym (bits_add s (8 * p + 4) 60 4) ∙ ap (λ (i : ℕ). bits s i 64) (sym q)

  -- a field of the last seven bytes, with r bits before it and t behind it
  inside : (at r w t a x : ℕ) → x ≡ bits s (8 * (at + 24)) (r + (w + t)) → a ≡ 8 * (at + 24) + r → x / 2 ^ t % 2 ^ w ≡ bits s a w
  inside at r w t a x e q = ap (λ (z : ℕ). z / 2 ^ t % 2 ^ w) e ∙ bits_within s (8 * (at + 24)) r w t ∙ ap (λ (i : ℕ). bits s i w) (sym q)

  pub padding_is : (at x : ℕ) → x ≡ be s (at + 24) 7 → x % 64 ≡ padding s at
  unfolding padding
  padding_is at x e =
      let q : 8 * (at + 24) + 50 ≡ 8 * at + 242 = omega arith in
      ap (λ (z : ℕ). z % 2 ^ 6) (e ∙ as_bits (at + 24) 7 ∙ bits_add s (8 * (at + 24)) 50 6)
      ∙ low (bits s (8 * (at + 24)) 50) 6 (bits_lt s (8 * (at + 24) + 50) 6)
      ∙ ap (λ (i : ℕ). bits s i 6) q

  pub heads_are : (at f g t l u v w : ℕ) → f ≡ be s at 8 → g ≡ be s (at + 8) 8 → t ≡ be s (at + 16) 8 → l ≡ be s (at + 24) 7
      → u ≡ f % 2 ^ 60 * 16 + g / 2 ^ 60 → v ≡ g % 2 ^ 60 * 16 + t / 2 ^ 60 → w ≡ t % 2 ^ 60 * 16 + l / 2 ^ 52
      → Heads s at (record {
        kind = f / 2 ^ 60;
        flags = u;
        guest = v;
        number = w;
        exit_reason = l / 2 ^ 40 % 2 ^ 12;
        data_len = l / 2 ^ 23 % 2 ^ 17;
        effect_len = l / 2 ^ 6 % 2 ^ 17;
      })
  unfolding head_at
  heads_are at f g t l u v w ef eg et el k₂ k₃ k₄ =
      let seven : l ≡ bits s (8 * (at + 24)) 56 = el ∙ as_bits (at + 24) 7 in
      let e₁ : f / 2 ^ 60 ≡ bits s (8 * at) 4 = first_four at 60 f (ef ∙ as_bits at 8) in
      let e₂ : u ≡ bits s (8 * at + 4) 64 = k₂ ∙ across at (8 * at + 4) f (g / 2 ^ 60) refl ef (first_four (at + 8) 60 g (eg ∙ as_bits (at + 8) 8)) in
      let p₃ : at + 8 + 8 ≡ at + 16 = omega arith in
      let p₄ : at + 16 + 8 ≡ at + 24 = omega arith in
      let e₃ : v ≡ bits s (8 * at + 68) 64 =
      k₃ ∙ across (at + 8) (8 * at + 68) g (t / 2 ^ 60) (omega arith) eg
      (first_four (at + 16) 60 t (et ∙ as_bits (at + 16) 8) ∙ ap (λ (i : ℕ). bits s (8 * i) 4) (sym p₃)) in
      let e₄ : w ≡ bits s (8 * at + 132) 64 =
      k₄ ∙ across (at + 16) (8 * at + 132) t (l / 2 ^ 52) (omega arith) et
      (first_four (at + 24) 52 l seven ∙ ap (λ (i : ℕ). bits s (8 * i) 4) (sym p₄)) in
      let e₅ : l / 2 ^ 40 % 2 ^ 12 ≡ bits s (8 * at + 196) 12 = inside at 4 12 40 (8 * at + 196) l seven (omega arith) in
      let e₆ : l / 2 ^ 23 % 2 ^ 17 ≡ bits s (8 * at + 208) 17 = inside at 16 17 23 (8 * at + 208) l seven (omega arith) in
      let e₇ : l / 2 ^ 6 % 2 ^ 17 ≡ bits s (8 * at + 225) 17 = inside at 33 17 6 (8 * at + 225) l seven (omega arith) in
      record {
        is = rw (e₁, e₂, e₃, e₄, e₅, e₆, e₇);
        data_fits = mod-lt (l / 2 ^ 23) (lit< tt);
        effect_fits = mod-lt (l / 2 ^ 6) (lit< tt);
      }
