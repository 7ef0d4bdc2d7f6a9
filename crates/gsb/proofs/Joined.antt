-- THEOREMS `joined_elements`: the elements of the joined buffer are those of the first, then those of the second; `joined_joinable`: it can be
-- joined again, if it is short enough; `joined_associative`. Assumes nothing.
use mathlib.Core.Path.{◌≡◌, refl, sym, ap, ap₂, ◌∙◌, subst}
use mathlib.Core.List.{List, ◌++◌, append_assoc}
use Prim.Native.Nat.{ℕ, ◌+◌, ◌-◌, ◌≤◌}
use native.Mathlib.Omega.{arith}
use lib.ListN.{length, length-append}
use Rattle.octets.specs.Bytes.{bytes_at, digits}
use Rattle.octets.proofs.Bytes.{length_bytes_at}
use Rattle.octets.proofs.Numbers.{length_digits}
use Rattle.gsb.specs.Walk.{count_of, offset_at}
use Rattle.gsb.specs.Message.{Stands, elements_in}
use Rattle.gsb.specs.Join.{end_of, counted, joined, Joinable}
use Rattle.gsb.proofs.Walks.{offset_start, offset_low}
use Rattle.gsb.proofs.RoundTrip.{begins_self, stands_left, stands_right, stands_number}
use Rattle.gsb.proofs.Shifted.{elements_none, shift_offset, shift_elements}
use Rattle.gsb.proofs.Whole.{Whole, joinable_whole, whole_joinable, count_bound}

-- ---- one buffer
pub counted_is : (b : List ℕ) → counted b ≡ bytes_at b 4 (end_of b - 4)
unfolding counted
counted_is b = refl

pub length_counted : (b : List ℕ) → end_of b ≤ length b → length (counted b) ≡ end_of b - 4
length_counted b w = ap length (counted_is b) ∙ length_bytes_at b 4 (end_of b - 4) (omega (arith, w, offset_low b (count_of b)))

-- ---- two
pub joined_is : (a b : List ℕ) → joined a b ≡ digits 4 (count_of a + count_of b) ++ (counted a ++ counted b)
unfolding joined
joined_is a b = refl

module _ (a b : List ℕ) (ea : end_of a ≤ length a) (eb : end_of b ≤ length b) where
  length_both : length (counted a ++ counted b) ≡ end_of a + end_of b - 8
  length_both =
      length-append (counted a) (counted b) ∙ ap₂ (λ (x y : ℕ). x + y) (length_counted a ea) (length_counted b eb)
      ∙ omega (arith, offset_low a (count_of a), offset_low b (count_of b))

  pub length_joined : length (joined a b) ≡ end_of a + end_of b - 4
  length_joined =
      ap length (joined_is a b) ∙ length-append (digits 4 (count_of a + count_of b)) (counted a ++ counted b)
      ∙ omega (arith, length_digits 4 (count_of a + count_of b), length_both, offset_low a (count_of a), offset_low b (count_of b))

module _ (a b : List ℕ) (wa : Whole a) (wb : Whole b) where
  long : length (joined a b) ≡ end_of a + end_of b - 4
  long = length_joined a b wa.end wb.end

  -- ---- where its parts stand
  parts : Stands (joined a b) 0 (digits 4 (count_of a + count_of b) ++ (counted a ++ counted b))
  parts = subst (Stands (joined a b) 0) (joined_is a b) (begins_self (joined a b))

  pub count_joined : count_of (joined a b) ≡ count_of a + count_of b
  count_joined =
      stands_number (joined a b) 0 4 (count_of a + count_of b) (stands_left (joined a b) 0 (digits 4 (count_of a + count_of b)) (counted a ++ counted b) parts)
      (omega (arith, (count_bound a wa).1, (count_bound b wb).1))

  behind : Stands (joined a b) 4 (counted a ++ counted b)
  behind =
      let z : 0 + length (digits 4 (count_of a + count_of b)) ≡ 4 = omega (arith, length_digits 4 (count_of a + count_of b)) in
      subst (λ (n : ℕ). Stands (joined a b) n (counted a ++ counted b)) z
      (stands_right (joined a b) 0 (digits 4 (count_of a + count_of b)) (counted a ++ counted b) parts)

  pub first_part : bytes_at (joined a b) (4 + 0) (end_of a - 4) ≡ bytes_at a 4 (end_of a - 4)
  first_part =
      ap (bytes_at (joined a b) 4) (sym (length_counted a wa.end))
      ∙ (stands_left (joined a b) 4 (counted a) (counted b) behind).same ∙ counted_is a

  pub second_part : bytes_at (joined a b) (4 + (end_of a - 4)) (end_of b - 4) ≡ bytes_at b 4 (end_of b - 4)
  second_part =
      ap₂ (λ (x y : ℕ). bytes_at (joined a b) (4 + x) y) (sym (length_counted a wa.end)) (sym (length_counted b wb.end))
      ∙ (stands_right (joined a b) 4 (counted a) (counted b) behind).same ∙ counted_is b

  -- ---- where its elements start
  pub start_b : offset_at (joined a b) (count_of a) ≡ 4 + (end_of a - 4)
  start_b =
      let z : count_of a ≡ 0 + count_of a = omega arith in
      ap (offset_at (joined a b)) z
      ∙ shift_offset (joined a b) a 0 (end_of a - 4) first_part 0 (count_of a) (sym (offset_start (joined a b))) (omega arith) (count_of a) (omega arith)
      ∙ omega (arith, offset_low a (count_of a))

  pub end_joined : end_of (joined a b) ≡ end_of a + end_of b - 4
  end_joined =
      ap (offset_at (joined a b)) count_joined
      ∙ shift_offset (joined a b) b (end_of a - 4) (end_of b - 4) second_part (count_of a) (count_of b) start_b (omega arith) (count_of b) (omega arith)
      ∙ omega (arith, offset_low a (count_of a), offset_low b (count_of b))

  first_elements : elements_in (joined a b) (count_of a) ≡ elements_in a (count_of a)
  first_elements =
      let z : count_of a ≡ 0 + count_of a = omega arith in
      ap (elements_in (joined a b)) z
      ∙ shift_elements (joined a b) a 0 (end_of a - 4) first_part 0 (count_of a) (sym (offset_start (joined a b))) (omega arith) (count_of a) (omega arith)
      ∙ ap (λ (x : List (ℕ × List ℕ)). x ++ elements_in a (count_of a)) (elements_none (joined a b))

  all_elements : elements_in (joined a b) (count_of (joined a b)) ≡ elements_in a (count_of a) ++ elements_in b (count_of b)
  all_elements =
      ap (elements_in (joined a b)) count_joined
      ∙ shift_elements (joined a b) b (end_of a - 4) (end_of b - 4) second_part (count_of a) (count_of b) start_b (omega arith) (count_of b) (omega arith)
      ∙ ap (λ (x : List (ℕ × List ℕ)). x ++ elements_in b (count_of b)) first_elements

  pub joined_whole : length (joined a b) ≤ 65536 → Whole (joined a b)
  joined_whole h = record { long = omega (arith, long, offset_low a (count_of a), offset_low b (count_of b)); short = h; end = omega (arith, long, end_joined) }

  -- its elements are all that stands behind its count
  counted_joined : counted (joined a b) ≡ counted a ++ counted b
  counted_joined =
      let z : end_of (joined a b) - 4 ≡ length (counted a ++ counted b) = omega (arith, end_joined, length_both a b wa.end wb.end) in
      counted_is (joined a b) ∙ ap (bytes_at (joined a b) 4) z ∙ behind.same

-- ---- what is promised of it
module _ (a b : List ℕ) (ja : Joinable a) (jb : Joinable b) where
  pub joined_elements : elements_in (joined a b) (count_of (joined a b)) ≡ elements_in a (count_of a) ++ elements_in b (count_of b)
  joined_elements = all_elements a b (joinable_whole a ja) (joinable_whole b jb)

  pub joined_joinable : length (joined a b) ≤ 65536 → Joinable (joined a b)
  joined_joinable h = whole_joinable (joined a b) (joined_whole a b (joinable_whole a ja) (joinable_whole b jb) h)

  -- what is joined is no shorter, whatever it is joined with
  module _ (c : List ℕ) (jc : Joinable c) where
    ended : end_of (joined a b) ≡ length (joined a b)
    ended = end_joined a b (joinable_whole a ja) (joinable_whole b jb) ∙ sym (long a b (joinable_whole a ja) (joinable_whole b jb))

    pub joined_longer : length (joined a b) ≤ length (joined (joined a b) c)
    joined_longer = omega (arith, length_joined (joined a b) c (omega (arith, ended)) (joinable_whole c jc).end, ended, offset_low c (count_of c))

    pub joined_longer_behind : length (joined a b) ≤ length (joined c (joined a b))
    joined_longer_behind = omega (arith, length_joined c (joined a b) (joinable_whole c jc).end (omega (arith, ended)), ended, offset_low c (count_of c))

  -- "this joining is associative": as bytes. No length is asked but those of the three
  pub joined_associative : (c : List ℕ) → Joinable c → joined (joined a b) c ≡ joined a (joined b c)
  joined_associative c jc =
      let wa = joinable_whole a ja in
      let wb = joinable_whole b jb in
      let wc = joinable_whole c jc in
      let n : count_of (joined a b) + count_of c ≡ count_of a + count_of (joined b c) = omega (arith, count_joined a b wa wb, count_joined b c wb wc) in
      joined_is (joined a b) c
      ∙ ap₂ (λ (k : ℕ) (x : List ℕ). digits 4 k ++ x) n
      (ap (λ (x : List ℕ). x ++ counted c) (counted_joined a b wa wb) ∙ append_assoc (counted a) (counted b) (counted c)
      ∙ ap (λ (x : List ℕ). counted a ++ x) (sym (counted_joined b c wb wc)))
      ∙ sym (joined_is a (joined b c))
