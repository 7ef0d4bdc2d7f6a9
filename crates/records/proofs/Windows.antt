-- What is kept of a window. Assumes nothing.
use mathlib.Core.Path.{◌≡◌, sym, ap, ◌∙◌}
use mathlib.Core.List.{List, ◌++◌}
use Prim.Native.Nat.{ℕ, ◌+◌, ◌-◌, ◌≤◌}
use native.Mathlib.Omega.{arith}
use lib.ListN.{length, take, drop, length-drop}
use lib.Seq.{length-take-le, sets-eq}
use Rattle.std.specs.List.{copy_within}
use Rattle.octets.specs.Bytes.{bytes_at, put}

-- what `copy_within` leaves of a window whose bytes from `at` on move to the front
pub kept : (w : List ℕ) (at filled : ℕ) → at ≤ length (take filled w) → filled ≤ length w → copy_within w at filled 0 ≡ put w 0 (bytes_at w at (filled - at))
unfolding put bytes_at
kept w at filled h k =
    let within : at ≤ filled = omega (arith, length-take-le filled w k) in
    let long : length (take (filled - at) (drop at w)) ≡ filled - at = length-take-le (filled - at) (drop at w) (simp length-drop (omega arith)) in
    let room : 0 + length (take (filled - at) (drop at w)) ≤ length w = omega arith in
    ap (λ (n : ℕ). take 0 w ++ take (filled - at) (drop at w) ++ drop (0 + n) w) (sym long) ∙ sym (sets-eq (take (filled - at) (drop at w)) w 0 room)
