-- Where the values of a part lie, and the nine parts, in the form of the code's needs. Assumes nothing.
use mathlib.Core.Path.{◌≡◌, refl, sym, ap, ◌∙◌}
use mathlib.Core.Bool.{Bool, true, ◌&&◌}
use Prim.Native.Nat.{ℕ, zero, suc, ◌+◌, ◌-◌, ◌*◌, ◌^◌, ◌≤◌, ◌<◌}
use native.Mathlib.Nat.{suc-mul}
use native.Mathlib.Decide.{dec_lt}
use native.Mathlib.Omega.{arith}
use mir.Syntax.{w64}
use mir.Val.{Fits}
use lib.Dec.{eqb, leb, ltb}
use borrow.Author.Tests.{leb-true, ltb-true, eqb-true}
use Rattle.elements.specs.Table.{table, numbered, thread_element}
use Rattle.handover.specs.Form.{count, size, state_bytes}
use Rattle.handover.specs.Private.{place, IsPart}
use Rattle.handover.proofs.Values.{both, place_all_lem, place_next, place_more}

pub place_up : (e k : ℕ) → e ≤ k → place e ≤ place k
place_up e k h = let z : e + (k - e) ≡ k = omega arith in omega (arith, place_more (k - e) e, ap place z)

pub place_within : (e : ℕ) → e ≤ count → place e ≤ state_bytes
place_within e h = omega (arith, place_up e count h, place_all_lem)

-- ---- a part's values begin within the values
module _ (base : ℕ) (from to wide first : ℕ) (ip : IsPart from to wide first) where
  pub start_fits : (len : ℕ) → base + state_bytes ≤ len → len < 2 ^ 64 → Fits w64 (base + first)
  start_fits len h l = record { fits = omega (arith, ip.start, place_within from (omega (arith, ip.upward, ip.within))) }

  pub start_here : base + first ≡ base + place from
  start_here = ap (λ (k : ℕ). base + k) ip.start

-- ---- and element e's is one of them
module _ (e : ℕ) (from to wide first : ℕ) (ip : IsPart from to wide first) where
  pub part_next : from ≤ e → e < to → place (e + 1) ≡ place e + wide
  part_next lo hi = place_next e ∙ ap (λ (k : ℕ). place e + k) (ip.alike e lo hi)

  pub part_upto : e < to → (place (e + 1) ≤ place to) × (place to ≤ state_bytes)
  part_upto hi = (place_up (e + 1) to (omega arith), place_within to ip.within)

module _ (base e here : ℕ) (from to wide first : ℕ) (ip : IsPart from to wide first) (lo : from ≤ e) (hi : e < to) (at : here ≡ base + place e) where
  pub part_here : here + wide ≡ base + place (e + 1)
  part_here = omega (arith, part_next e from to wide first ip lo hi)

  pub part_room : (len : ℕ) → base + state_bytes ≤ len → here + wide ≤ len
  part_room len h = omega (arith, part_here, (part_upto e from to wide first ip hi).0, (part_upto e from to wide first ip hi).1)

  pub part_fits : (len : ℕ) → base + state_bytes ≤ len → len < 2 ^ 64 → Fits w64 (here + wide)
  part_fits len h l = record { fits = omega (arith, part_room len h) }

-- ---- by the number of elements before it
module _ (from to wide first : ℕ) (ip : IsPart from to wide first) where
  span : (d : ℕ) → from + d ≤ to → place (from + d) ≡ place from + d * wide
  span zero h = let z : from + 0 ≡ from = omega arith in ap place z ∙ omega arith
  span (suc d) h =
      let z : from + suc d ≡ from + d + 1 = omega arith in
      omega (arith, ap place z, part_next (from + d) from to wide first ip (omega arith) (omega arith), span d (omega arith), suc-mul d wide)

  pub span_to : (e : ℕ) → from ≤ e → e ≤ to → place e ≡ place from + (e - from) * wide
  span_to e lo hi = let z : from + (e - from) ≡ e = omega arith in ap place (sym z) ∙ span (e - from) (omega arith)

  module _ (e : ℕ) (lo : from ≤ e) (hi : e ≤ to) where
    bound : place e ≤ state_bytes
    bound = place_within e (omega (arith, ip.within))

    pub place_is : first + (e - from) * wide ≡ place e
    place_is = omega (arith, ip.start, span_to e lo hi)

    pub steps_fit : Fits w64 ((e - from) * wide)
    steps_fit = record { fits = omega (arith, place_is, bound) }

    pub place_fits : Fits w64 (first + (e - from) * wide)
    place_fits = record { fits = omega (arith, place_is, bound) }

-- ---- all of it, r being where it ends
module _ (from to wide first r : ℕ) (ip : IsPart from to wide first) (e : r ≡ place to) where
  pub whole_bounds : (first ≤ r) × (r ≤ state_bytes)
  whole_bounds = (omega (arith, e, ip.start, place_up from to (omega (arith, ip.upward))), omega (arith, e, place_within to ip.within))

  pub whole_under : first ≤ r
  whole_under = whole_bounds.0

  pub whole_room : (base len : ℕ) → base + state_bytes ≤ len → base + first + (r - first) ≤ len
  whole_room base len h = omega (arith, whole_bounds.0, whole_bounds.1)

  pub whole_long : place (from + (to - from)) - place from ≡ r - first
  whole_long = let z : from + (to - from) ≡ to = omega (arith, ip.upward) in omega (arith, e, ip.start, ap place z)

-- ---- a part is one by a computed test
same : ℕ → ℕ → ℕ → Bool
same n e zero = true
same n e (suc k) = eqb (size e) n && same n (e + 1) k

same_size : (n k e : ℕ) → same n e k ≡ true → (x : ℕ) → e ≤ x → x < e + k → size x ≡ n
unfolding same
same_size n zero e t x i j = absurd (omega arith)
same_size n (suc k) e t x i j =
    let p = both (eqb (size e) n) (same n (e + 1) k) t in
    first (dec_lt e x) (eqb-true (size e) n p.0) (λ (l : e + 1 ≤ x). same_size n k (e + 1) p.1 x l (omega arith))
  where
    first : Dec (e < x) → size e ≡ n → (e + 1 ≤ x → size x ≡ n) → size x ≡ n
    first (yes l) a f = f (omega arith)
    first (no l) a f = let z : e ≡ x = omega arith in rw (← z) a

is_part : ℕ → ℕ → ℕ → ℕ → Bool
is_part from to wide first =
    ltb from to && (leb to count && (leb to (from + 64) && (same wide from (to - from) && eqb first (place from))))

is_part_lem : (from to wide first : ℕ) → is_part from to wide first ≡ true → IsPart from to wide first
unfolding is_part
is_part_lem from to wide first t =
    let a = both (ltb from to) _ t in
    let b = both (leb to count) _ a.1 in
    let c = both (leb to (from + 64)) _ b.1 in
    let d = both (same wide from (to - from)) _ c.1 in
    let u : from < to = ltb-true _ _ a.0 in
    record {
      upward = u;
      within = leb-true _ _ b.0;
      few = leb-true _ _ c.0;
      alike = λ e i j. same_size wide (to - from) from d.0 e i (omega arith);
      start = eqb-true _ _ d.1;
    }

pub part_a : IsPart 0 2 16 0
unfolding is_part same size place thread_element numbered table
part_a = is_part_lem 0 2 16 0 refl

pub part_b : IsPart 2 48 8 32
unfolding is_part same size place thread_element numbered table
part_b = is_part_lem 2 48 8 32 refl

pub part_c : IsPart 48 87 8 400
unfolding is_part same size place thread_element numbered table
part_c = is_part_lem 48 87 8 400 refl

pub part_d : IsPart 87 102 4 712
unfolding is_part same size place thread_element numbered table
part_d = is_part_lem 87 102 4 712 refl

pub part_e : IsPart 102 112 16 772
unfolding is_part same size place thread_element numbered table
part_e = is_part_lem 102 112 16 772 refl

pub part_f : IsPart 112 166 16 932
unfolding is_part same size place thread_element numbered table
part_f = is_part_lem 112 166 16 932 refl

pub part_g : IsPart 166 167 8 1796
unfolding is_part same size place thread_element numbered table
part_g = is_part_lem 166 167 8 1796 refl

pub part_h : IsPart 167 169 4 1804
unfolding is_part same size place thread_element numbered table
part_h = is_part_lem 167 169 4 1804 refl

pub part_i : IsPart 169 170 8 1812
unfolding is_part same size place thread_element numbered table
part_i = is_part_lem 169 170 8 1812 refl
