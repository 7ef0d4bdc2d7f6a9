-- The value rule reads the value's bytes alone: it says the same of a value that stands elsewhere. Assumes nothing.
use mathlib.Core.Path.{◌≡◌, refl, sym, ap, ◌∙◌}
use mathlib.Core.Bool.{Bool, true, false, cond, not, ◌||◌}
use mathlib.Core.List.{List}
use Prim.Native.Nat.{ℕ, ◌+◌, ◌≤◌}
use native.Mathlib.Omega.{arith}
use lib.Dec.{eqb}
use borrow.Author.Tests.{eqb-true}
use Rattle.octets.specs.Bytes.{bytes_at, be}
use Rattle.octets.proofs.Numbers.{be_part}
use Rattle.elements.specs.Table.{table, find, source_of, position, below, kind_of}
use Rattle.rules.specs.declared.Context.{Context}
use Rattle.rules.specs.Rules.{size_fits, is_setting, good_pvr, good_input, good_output, rule_of, good_value}
use Rattle.rules.proofs.Rules.{size_at_lem}

module _ (c id : ℕ) (a : List ℕ) (i : ℕ) (b : List ℕ) (j n : ℕ) (same : bytes_at a i n ≡ bytes_at b j n) (fits : size_fits (kind_of id) n ≡ true) where
  number : (k m : ℕ) → k + m ≤ n → be a (i + k) m ≡ be b (j + k) m
  number k m h = sym (be_part a i n k m h) ∙ ap (λ (x : List ℕ). be x k m) same ∙ be_part b j n k m h

  first_number : (m : ℕ) → m ≤ n → be a i m ≡ be b j m
  first_number m h =
      let p : i ≡ i + 0 = omega arith in
      let q : j + 0 ≡ j = omega arith in
      ap (λ (x : ℕ). be a x m) p ∙ number 0 m (omega arith) ∙ ap (λ (x : ℕ). be b x m) q

  pvr_size : id ≡ 0x0003 → n ≡ 4
  unfolding kind_of find table source_of position below
  pvr_size e = size_at_lem 0x0003 _ refl id n e fits

  input_size_lem : id ≡ 0x0C00 → n ≡ 16
  unfolding kind_of find table source_of position below
  input_size_lem e = size_at_lem 0x0C00 _ refl id n e fits

  output_size_lem : id ≡ 0x0C01 → n ≡ 16
  unfolding kind_of find table source_of position below
  output_size_lem e = size_at_lem 0x0C01 _ refl id n e fits

  rule_alike : rule_of c id a i ≡ rule_of c id b j
  unfolding rule_of
  rule_alike = go (eqb id 0x0003) (eqb id 0x0C00) (eqb id 0x0C01) refl refl refl
    where
      go : (p q r : Bool) → eqb id 0x0003 ≡ p → eqb id 0x0C00 ≡ q → eqb id 0x0C01 ≡ r
          → cond p (good_pvr c (be a i 4)) (cond q (good_input (be a (i + 8) 8)) (cond r (good_output (be a (i + 8) 8)) true))
          ≡ cond p (good_pvr c (be b j 4)) (cond q (good_input (be b (j + 8) 8)) (cond r (good_output (be b (j + 8) 8)) true))
      go true q r e f g = ap (good_pvr c) (first_number 4 (omega (arith, pvr_size (eqb-true _ _ e))))
      go false true r e f g = ap good_input (number 8 8 (omega (arith, input_size_lem (eqb-true _ _ f))))
      go false false true e f g = ap good_output (number 8 8 (omega (arith, output_size_lem (eqb-true _ _ g))))
      go false false false e f g = refl

pub value_alike : (k : Context) (id : ℕ) (a : List ℕ) (i : ℕ) (b : List ℕ) (j n : ℕ) → bytes_at a i n ≡ bytes_at b j n → size_fits (kind_of id) n ≡ true
    → good_value k id a i ≡ good_value k id b j
unfolding good_value
value_alike k id a i b j n same fits = ap (λ (t : Bool). not (is_setting k.usage) || t) (rule_alike k.capabilities id a i b j n same fits)
