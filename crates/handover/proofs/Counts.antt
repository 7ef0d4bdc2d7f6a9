-- A part of a form judged by the number of its values, in the form of the code's needs. Assumes nothing.
use mathlib.Core.Path.{◌≡◌, refl, sym, ap, ap₂, ◌∙◌}
use mathlib.Core.Bool.{Bool, true, false, not, ◌&&◌, cond}
use mathlib.Core.List.{List}
use Prim.Native.Nat.{ℕ, zero, suc, ◌+◌, ◌-◌, ◌*◌, ◌^◌, ◌≤◌, ◌<◌}
use native.Mathlib.Nat.{suc-mul}
use native.Mathlib.Decide.{dec_lt}
use native.Mathlib.Omega.{arith}
use mir.Syntax.{w64}
use mir.Val.{Fits}
use lib.Count.{ones, ones-le}
use lib.Dec.{leb}
use lib.ListN.{length}
use borrow.Author.Tests.{le-leb, lt-leb}
use Rattle.octets.specs.Bytes.{bytes_at}
use Rattle.std.proofs.Common.{None, Some}
use Rattle.handover.specs.Form.{size, is_zero, presence, is_shown, next, sound, holds}
use Rattle.handover.specs.Private.{place, IsPart, after, walked}
use Rattle.handover.proofs.Walk.{next_on, next_off, sound_on, sound_off}
use Rattle.handover.proofs.Presence.{presence_lt, ones_first}
use Rattle.handover.proofs.Places.{place_up, part_next, span_to}

-- k values of w bytes, none of them all zero
pub solid : List ℕ → ℕ → ℕ → ℕ → Bool
solid b w zero at = true
solid b w (suc k) at = not (is_zero (bytes_at b at w)) && solid b w k (at + w)

module _ (b : List ℕ) (w : ℕ) where
  after_count : (n e at : ℕ) → ((y : ℕ) → e ≤ y → y < e + n → size y ≡ w) → after b e n at ≡ at + ones (presence (is_shown b) e n) * w
  unfolding after presence ones
  after_count zero e at f = omega arith
  after_count (suc n) e at f = go (is_shown b e) refl (after_count n (e + 1) (next b e at) (λ y i j. f y (omega arith) (omega arith)))
    where
      k : ℕ
      k = ones (presence (is_shown b) (e + 1) n)

      go : (m : Bool) → is_shown b e ≡ m → after b (e + 1) n (next b e at) ≡ next b e at + k * w → after b (e + 1) n (next b e at) ≡ at + ones (presence (is_shown b) e (suc n)) * w
      go true m ih =
          let z : ones (presence (is_shown b) e (suc n)) ≡ suc k = ones_first (is_shown b) e n ∙ ap (λ (c : Bool). cond c 1 0 + k) m ∙ omega arith in
          ih ∙ omega (arith, next_on b e at m, f e (omega arith) (omega arith), ap (λ (i : ℕ). i * w) z, suc-mul k w)
      go false m ih =
          let z : ones (presence (is_shown b) e (suc n)) ≡ k = ones_first (is_shown b) e n ∙ ap (λ (c : Bool). cond c 1 0 + k) m ∙ omega arith in
          ih ∙ omega (arith, next_off b e at m, ap (λ (i : ℕ). i * w) z)

  holds_count : (n e at : ℕ) → ((y : ℕ) → e ≤ y → y < e + n → size y ≡ w) → at ≤ length b
      → holds b e n at ≡ leb (at + ones (presence (is_shown b) e n) * w) (length b) && solid b w (ones (presence (is_shown b) e n)) at
  unfolding holds presence ones solid
  holds_count zero e at f h = let z : at + 0 * w ≤ length b = omega arith in sym (simp (le-leb _ _ z))
  holds_count (suc n) e at f h = go (is_shown b e) refl (dec_lt (length b) (at + w)) (λ (l : next b e at ≤ length b). holds_count n (e + 1) (next b e at) (λ y i j. f y (omega arith) (omega arith)) l)
    where
      k : ℕ
      k = ones (presence (is_shown b) (e + 1) n)

      shift : (p q r : Bool) → p && (q && r) ≡ q && (p && r)
      shift true q r = refl
      shift false true r = refl
      shift false false r = refl

      go : (m : Bool) → is_shown b e ≡ m → Dec (length b < at + w) → (next b e at ≤ length b → holds b (e + 1) n (next b e at) ≡ leb (next b e at + k * w) (length b) && solid b w k (next b e at))
          → sound b e at && holds b (e + 1) n (next b e at) ≡ leb (at + ones (presence (is_shown b) e (suc n)) * w) (length b) && solid b w (ones (presence (is_shown b) e (suc n))) at
      go true m (yes l) ih =
          let z : ones (presence (is_shown b) e (suc n)) ≡ suc k = ones_first (is_shown b) e n ∙ ap (λ (c : Bool). cond c 1 0 + k) m ∙ omega arith in
          let s : size e ≡ w = f e (omega arith) (omega arith) in
          let x : length b < at + size e = omega arith in
          let y : length b < at + suc k * w = omega (arith, suc-mul k w) in
          ap (λ (t : Bool). t && holds b (e + 1) n (next b e at)) (sound_on b e at m ∙ ap (λ (t : Bool). t && not (is_zero (bytes_at b at (size e)))) (lt-leb _ _ x))
          ∙ sym (ap (λ (i : ℕ). leb (at + i * w) (length b) && solid b w i at) z ∙ ap (λ (t : Bool). t && solid b w (suc k) at) (lt-leb _ _ y))
      go true m (no l) ih =
          let z : ones (presence (is_shown b) e (suc n)) ≡ suc k = ones_first (is_shown b) e n ∙ ap (λ (c : Bool). cond c 1 0 + k) m ∙ omega arith in
          let s : size e ≡ w = f e (omega arith) (omega arith) in
          let x : at + w ≤ length b = omega arith in
          let q : next b e at ≡ at + w = next_on b e at m ∙ ap (λ (i : ℕ). at + i) s in
          let y : at + w + k * w ≡ at + suc k * w = omega (arith, suc-mul k w) in
          ap₂ (λ (t u : Bool). t && u)
          (sound_on b e at m ∙ ap (λ (i : ℕ). leb (at + i) (length b) && not (is_zero (bytes_at b at i))) s ∙ ap (λ (t : Bool). t && not (is_zero (bytes_at b at w))) (le-leb _ _ x))
          (ih (rw q x) ∙ ap (λ (a : ℕ). leb (a + k * w) (length b) && solid b w k a) q)
          ∙ shift (not (is_zero (bytes_at b at w))) (leb (at + w + k * w) (length b)) (solid b w k (at + w))
          ∙ ap (λ (i : ℕ). leb i (length b) && (not (is_zero (bytes_at b at w)) && solid b w k (at + w))) y
          ∙ sym (ap (λ (i : ℕ). leb (at + i * w) (length b) && solid b w i at) z)
      go false m l ih =
          let z : ones (presence (is_shown b) e (suc n)) ≡ k = ones_first (is_shown b) e n ∙ ap (λ (c : Bool). cond c 1 0 + k) m ∙ omega arith in
          let q : next b e at ≡ at = next_off b e at m in
          ap₂ (λ (t u : Bool). t && u) (sound_off b e at m) (ih (rw q h) ∙ ap (λ (a : ℕ). leb (a + k * w) (length b) && solid b w k a) q)
          ∙ sym (ap (λ (i : ℕ). leb (at + i * w) (length b) && solid b w i at) z)

-- ---- a part
module _ (b : List ℕ) (from to wide first m at : ℕ) (ip : IsPart from to wide first) (w : m ≡ presence (is_shown b) from (to - from)) where
  few : ones m ≤ to - from
  few = ones-le (to - from) m (rw w (presence_lt (is_shown b) from (to - from)))

  pub count_fits : Fits w64 (ones m)
  count_fits = record { fits = omega (arith, few, ip.within) }

  pub count_add : Fits w64 (from + ones m)
  count_add = record { fits = omega (arith, few, ip.within) }

  pub count_index : (i : ℕ) → i < ones m → Fits w64 (i + 1)
  count_index i h = record { fits = omega (arith, few, ip.within) }

  pub count_upto : from + ones m ≤ to
  count_upto = omega (arith, few, ip.upward)

  pub count_under : (r : ℕ) → r ≡ place (from + ones m) → first ≤ r
  count_under r e = omega (arith, e, ip.start, place_up from (from + ones m) (omega arith))

  long_is : place (from + ones m) ≡ first + ones m * wide
  long_is =
      let z : from + ones m - from ≡ ones m = omega arith in
      span_to from to wide first ip (from + ones m) (omega arith) count_upto ∙ ap₂ (λ (i j : ℕ). i + j * wide) (sym ip.start) z

  walked_is : at ≤ length b → walked b from (to - from) at ≡ cond (leb (at + ones m * wide) (length b) && solid b wide (ones m) at) (Some (at + ones m * wide)) None
  unfolding walked
  walked_is h =
      let f : (y : ℕ) → from ≤ y → y < from + (to - from) → size y ≡ wide = λ y i j. ip.alike y i (omega arith) in
      ap₂ (λ (t : Bool) (k : ℕ). cond t (Some k) None)
      (holds_count b wide (to - from) from at f h ∙ ap (λ (i : ℕ). leb (at + ones i * wide) (length b) && solid b wide (ones i) at) (sym w))
      (after_count b wide (to - from) from at f ∙ ap (λ (i : ℕ). at + ones i * wide) (sym w))

  pub count_short : (r : ℕ) → r ≡ place (from + ones m) → at ≤ length b → length b - at < r - first → None ≡ walked b from (to - from) at
  count_short r e h l =
      let x : length b < at + ones m * wide = omega (arith, e, long_is) in
      sym (walked_is h ∙ ap (λ (t : Bool). cond (t && solid b wide (ones m) at) (Some (at + ones m * wide)) None) (lt-leb _ _ x))

  module _ (r : ℕ) (e : r ≡ place (from + ones m)) (h : at ≤ length b) (l : r - first ≤ length b - at) where
    inside : at + ones m * wide ≤ length b
    inside = omega (arith, e, long_is)

    walked_solid : walked b from (to - from) at ≡ cond (solid b wide (ones m) at) (Some (at + ones m * wide)) None
    walked_solid = walked_is h ∙ ap (λ (t : Bool). cond (t && solid b wide (ones m) at) (Some (at + ones m * wide)) None) (le-leb _ _ inside)

    -- i of them are passed, and the next is at `here`
    module _ (i here : ℕ) (p : here + place from ≡ at + place (from + i)) where
      module _ (j : i < ones m) where
        pub count_next : here + wide + place from ≡ at + place (from + (i + 1))
        count_next =
            let z : from + i + 1 ≡ from + (i + 1) = omega arith in
            omega (arith, part_next (from + i) from to wide first ip (omega arith) (omega (arith, count_upto)), ap place z)

        pub value_room : here + wide ≤ length b
        value_room = omega (arith, count_next, place_up (from + (i + 1)) (from + ones m) (omega arith), e, ip.start, count_under r e)

        pub here_fits : length b < 2 ^ 64 → Fits w64 (here + wide)
        here_fits g = record { fits = omega (arith, value_room) }

        solid_first : solid b wide (ones m - i) here ≡ not (is_zero (bytes_at b here wide)) && solid b wide (ones m - (i + 1)) (here + wide)
        unfolding solid
        solid_first = let z : ones m - i ≡ suc (ones m - (i + 1)) = omega arith in ap (λ (k : ℕ). solid b wide k here) z

        module _ (t z : Bool) (q : t ≡ solid b wide (ones m - i) here) (x : z ≡ is_zero (bytes_at b here wide)) where
          pub count_turn : z ≡ false → t ≡ solid b wide (ones m - (i + 1)) (here + wide)
          count_turn y = q ∙ solid_first ∙ ap (λ (u : Bool). not u && solid b wide (ones m - (i + 1)) (here + wide)) (sym x ∙ y)

          count_stop : z ≡ true → t ≡ false
          count_stop y = q ∙ solid_first ∙ ap (λ (u : Bool). not u && solid b wide (ones m - (i + 1)) (here + wide)) (sym x ∙ y)

        pub count_bad : (z : Bool) → solid b wide (ones m) at ≡ solid b wide (ones m - i) here → z ≡ is_zero (bytes_at b here wide) → z ≡ true → None ≡ walked b from (to - from) at
        count_bad z q x y = sym (walked_solid ∙ ap (λ (u : Bool). cond u (Some (at + ones m * wide)) None) (count_stop (solid b wide (ones m) at) z q x y))

      pub count_end : solid b wide (ones m) at ≡ solid b wide (ones m - i) here → i ≤ ones m → ones m ≤ i → Some here ≡ walked b from (to - from) at
      unfolding solid
      count_end q u v =
          let z : ones m - i ≡ 0 = omega arith in
          let x : i ≡ ones m = omega arith in
          let y : at + ones m * wide ≡ here = omega (arith, long_is, ip.start, ap (λ (k : ℕ). place (from + k)) x) in
          sym (walked_solid ∙ ap₂ (λ (t : Bool) (k : ℕ). cond t (Some k) None) (q ∙ ap (λ (k : ℕ). solid b wide k here) z) y)

-- ---- the loop's ends
pub place_start : (from at : ℕ) → at + place from ≡ at + place (from + 0)
place_start from at = let z : from ≡ from + 0 = omega arith in ap (λ (i : ℕ). at + place i) z

pub solid_start : (b : List ℕ) (w k at : ℕ) → solid b w k at ≡ solid b w (k - 0) at
solid_start b w k at = let z : k ≡ k - 0 = omega arith in ap (λ (i : ℕ). solid b w i at) z
