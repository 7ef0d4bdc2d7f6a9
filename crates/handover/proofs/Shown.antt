-- The next element of a part that is shown present: its digit is the top one of the bits that are left, in the form of the code's needs.
-- Assumes nothing.
use mathlib.Core.Path.{◌≡◌, sym, ap, ◌∙◌}
use mathlib.Core.Bool.{Bool}
use Prim.Native.Nat.{ℕ, ◌+◌, ◌-◌, ◌^◌, ◌≤◌, ◌<◌}
use native.Mathlib.Omega.{arith}
use mir.Syntax.{w64}
use mir.Val.{Fits}
use lib.Pow.{pow_pos}
use Rattle.handover.specs.Form.{state_bytes, presence}
use Rattle.handover.specs.Private.{place, IsPart}
use Rattle.handover.proofs.Presence.{Top, top_shown}
use Rattle.handover.proofs.Places.{place_up, place_within, part_next}

module _ (p : ℕ → Bool) (from to wide first e left k : ℕ) (ip : IsPart from to wide first) (lo : from ≤ e) (hi : e ≤ to) (w : left ≡ presence p e (to - e))
    (a : 2 ^ k ≤ left) (b : left < 2 ^ (k + 1)) where
  pub next_top : Top p e to k left
  next_top = top_shown p (to - e) e to k left (omega arith) w a b

  pub digit_under : k ≤ to
  digit_under = omega (arith, next_top.before)

  pub digit_before : 1 ≤ to - k
  digit_before = omega (arith, next_top.before)

  pub digit_from : from ≤ to - k - 1
  digit_from = omega (arith, next_top.before)

  pub digit_upto : from ≤ to - k
  digit_upto = omega (arith, next_top.before)

  pub left_rest : (q : ℕ) → q ≡ left - 2 ^ k → q ≡ presence p (to - k) (to - (to - k))
  left_rest q h = let z : k ≡ to - (to - k) = omega (arith, digit_under) in h ∙ sym next_top.rest ∙ ap (presence p (to - k)) z

  pub places : (place e ≤ place (to - k - 1)) × (place (to - k) ≡ place (to - k - 1) + wide) × (place (to - k) ≤ place to) × (place to ≤ state_bytes)
  places =
      let z : to - k - 1 + 1 ≡ to - k = omega (arith, digit_before) in (
        place_up e (to - k - 1) (omega (arith, next_top.before)),
        ap place (sym z) ∙ part_next (to - k - 1) from to wide first ip digit_from (omega (arith, digit_before)),
        place_up (to - k) to (omega arith),
        place_within to ip.within,
      )

  -- where its value lies
  module _ (base at : ℕ) (h : at ≡ place (to - k - 1)) where
    pub shown_room : (len : ℕ) → base + state_bytes ≤ len → base + at + wide ≤ len
    shown_room len l = omega (arith, places.1, places.2, places.3)

    pub shown_fits : (len : ℕ) → base + state_bytes ≤ len → len < 2 ^ 64 → Fits w64 (base + at)
    shown_fits len l m = record { fits = omega (arith, shown_room len l) }

pub less_left : (left k q : ℕ) → 2 ^ k ≤ left → q ≡ left - 2 ^ k → q < left
less_left left k q a h = omega (arith, pow_pos k)
