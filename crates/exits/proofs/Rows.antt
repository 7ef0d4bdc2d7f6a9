-- The output of an exit: how long it is, and what its count and elements make. Assumes nothing.
use mathlib.Core.Path.{◌≡◌, sym, ap, ◌∙◌, subst}
use mathlib.Core.Bool.{Bool, true, false, cond}
use mathlib.Core.List.{List, [], ◌∷◌}
use Prim.Native.Nat.{ℕ, ◌+◌, ◌≤◌}
use native.Mathlib.Omega.{arith}
use lib.Dec.{eqb}
use lib.ListN.{length, take}
use lib.Seq.{take-length}
use Rattle.octets.specs.Bytes.{put, digits}
use Rattle.gsb.specs.Message.{elements_bytes, message}
use Rattle.gsb.proofs.Messages.{length_message, message_put}
use Rattle.exits.specs.Exits.{exits, row_of, returned, weigh, row_bytes, valued, output_of}
use Rattle.exits.proofs.Written.{both, row_fits, rows_fit, exits_fit, Fits, none_fits, fits_row, weighed, length_valued}

-- ---- how long an output is
all_among : (xs : List (ℕ × List ℕ)) (exit : ℕ) → rows_fit xs ≡ true → Fits (row_of xs exit)
unfolding row_of
all_among [] exit e = none_fits
all_among (x ∷ xs) exit e = go (eqb x.0 exit) (both (row_fits x.1) (rows_fit xs) e) (all_among xs exit)
  where
    go : (t : Bool) → (row_fits x.1 ≡ true) × (rows_fit xs ≡ true) → (rows_fit xs ≡ true → Fits (row_of xs exit)) → Fits (cond t x.1 (row_of xs exit))
    go true p ih = fits_row x.1 p.0
    go false p ih = ih p.1

-- no output is longer than the least that can be registered
pub output_short : (exit : ℕ) → row_bytes (returned exit) ≤ 124
output_short exit = omega (arith, (all_among exits exit exits_fit).light)

pub returned_few : (exit : ℕ) → length (returned exit) ≤ 10
returned_few exit = (all_among exits exit exits_fit).few

pub length_output : (base : ℕ) (s : List ℕ) (exit : ℕ) → base + 1820 ≤ length s → length (output_of base s exit) ≡ row_bytes (returned exit)
unfolding output_of
length_output base s exit room =
    let ids = returned exit in
    let w = weighed base s ids (length ids) room (all_among exits exit exits_fit).all (omega arith) in
    let e : take (length ids) ids ≡ ids = take-length ids in
    length_message (valued base s ids) ∙ ap (λ (n : ℕ). 4 + n) (ap (λ (x : List ℕ). length (elements_bytes (valued base s x))) (sym e) ∙ w ∙ ap weigh e)

-- what the count and the elements behind it make, for the IDs that an exit returns
pub returned_fits : (exit : ℕ) (ids : List ℕ) → ids ≡ returned exit → Fits ids
returned_fits exit ids e = subst Fits (sym e) (all_among exits exit exits_fit)

pub output_made : (base : ℕ) (s b x y : List ℕ) (exit n : ℕ) (ids : List ℕ) → ids ≡ returned exit → n ≡ length ids → x ≡ put b 0 (digits 4 n)
    → y ≡ put x 4 (elements_bytes (valued base s ids)) → y ≡ put b 0 (output_of base s exit)
unfolding output_of
output_made base s b x y exit n ids e c h k =
    let l : n ≡ length (valued base s ids) = c ∙ sym (length_valued base s ids) in
    message_put b x y n (valued base s ids) h k l ∙ ap (λ (ids : List ℕ). put b 0 (message (valued base s ids))) e
