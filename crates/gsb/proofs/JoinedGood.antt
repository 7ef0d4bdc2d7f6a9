-- The joined buffer of two good ones is good. Assumes nothing.
use mathlib.Core.Path.{◌≡◌, sym, ap, ◌∙◌, subst}
use mathlib.Core.List.{List}
use Prim.Native.Nat.{ℕ, suc, ◌+◌, ◌-◌, ◌≤◌, ◌<◌}
use native.Mathlib.Numerals.{add-one}
use native.Mathlib.Decide.{dec_lt}
use native.Mathlib.Omega.{arith}
use lib.ListN.{length}
use Rattle.octets.specs.Bytes.{bytes_at}
use Rattle.rules.specs.declared.Context.{Context}
use Rattle.gsb.specs.Walk.{count_of, next_at, offset_at, judged, first_bad}
use Rattle.gsb.specs.Join.{end_of, joined}
use Rattle.gsb.proofs.Judged.{good_there}
use Rattle.gsb.proofs.Walks.{offset_start, offset_suc, offset_up}
use Rattle.gsb.proofs.First.{all_good, element_good_lem}
use Rattle.gsb.proofs.Shifted.{shift_id, shift_size, shift_value}
use Rattle.gsb.proofs.Whole.{Whole}
use Rattle.gsb.proofs.Joined.{length_joined, count_joined, first_part, second_part, start_b, end_joined}
use Rattle.std.proofs.Common.{Ok}

-- element i of a buffer j is good
abbrev GoodIn : Context → List ℕ → ℕ → Type 0
GoodIn k j i = judged k j (offset_at j i) ≡ Ok (next_at j (offset_at j i))

-- those of a good buffer are good where they stand in another, from element c on
module _ (k : Context) (j b : List ℕ) (d : ℕ) (same : bytes_at j (4 + d) (end_of b - 4) ≡ bytes_at b 4 (end_of b - 4)) (c : ℕ) (start : offset_at j c ≡ 4 + d) (good : first_bad k b ≡ Ok tt) where
  good_shifted : (i : ℕ) → i < count_of b → next_at j (offset_at j (c + i)) ≤ length j → GoodIn k j (c + i)
  good_shifted i l h =
      good_there k j (offset_at j (c + i)) b (offset_at b i) (element_good_lem k b good i l)
      (shift_id j b d (end_of b - 4) same c (count_of b) start (omega arith) i l)
      (shift_size j b d (end_of b - 4) same c (count_of b) start (omega arith) i l)
      (shift_value j b d (end_of b - 4) same c (count_of b) start (omega arith) i l) h

module _ (k : Context) (a b : List ℕ) (wa : Whole a) (wb : Whole b) (ga : first_bad k a ≡ Ok tt) (gb : first_bad k b ≡ Ok tt) where
  -- every element of the joined buffer lies inside
  inside : (i : ℕ) → i < count_of (joined a b) → next_at (joined a b) (offset_at (joined a b) i) ≤ length (joined a b)
  inside i h =
      omega (arith, offset_up (joined a b) (suc i) (count_of (joined a b)) h, offset_suc (joined a b) i, end_joined a b wa wb, length_joined a b wa.end wb.end)

  either : (i : ℕ) → i < count_of (joined a b) → Dec (i < count_of a) → GoodIn k (joined a b) i
  either i h (yes l) =
      let z : 0 + i ≡ i = omega arith in
      subst (GoodIn k (joined a b)) z
      (good_shifted k (joined a b) a 0 (first_part a b wa wb) 0 (sym (offset_start (joined a b))) ga i l (inside (0 + i) (omega arith)))
  either i h (no l) =
      let z : count_of a + (i - count_of a) ≡ i = omega arith in
      subst (GoodIn k (joined a b)) z
      (good_shifted k (joined a b) b (end_of a - 4) (second_part a b wa wb) (count_of a) (start_b a b wa wb) gb (i - count_of a)
      (omega (arith, count_joined a b wa wb)) (inside (count_of a + (i - count_of a)) (omega arith)))

  pub good_joined : first_bad k (joined a b) ≡ Ok tt
  good_joined =
      (all_good k (joined a b)).1
      (λ i h. either i h (dec_lt i (count_of a)) ∙ ap Ok (sym (offset_suc (joined a b) i) ∙ ap (offset_at (joined a b)) (sym (add-one i))))
