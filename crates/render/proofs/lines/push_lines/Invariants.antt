-- The loop's invariant: what is still to be written of all lines, `Left`, is the lines of the elements from `index` on; those before
-- took at most 27 bytes each.
use Rattle.gsb.specs.Walk.{count_of}
use Rattle.render.specs.Listing.{lines}
use Rattle.render.proofs.Listed.{Left}
use Prim.Native.Nat.{◌+◌, ◌-◌, ◌*◌, ◌≤◌}
use lib.ListN.{length}
use mathlib.Core.Path.{◌≡◌}
use Rattle.render.proofs.lines.push_lines.Given as goal

abbrev pub invariant-loop-index : goal.invariant-loop-index
invariant-loop-index l =
    (4 + 4 * l.index ≤ l.offset)
    × (l.offset ≤ length l.b)
    × (l.end ≤ l.at + 27 * l.index)
    × (length l.text ≡ length l.initial.text)
    × Left l.initial.text l.at (lines l.b (count_of l.b) 0 4) l.text l.end (lines l.b (l.count - l.index) l.index l.offset)
