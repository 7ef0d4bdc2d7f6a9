-- The loop's invariant: what the bytes leave is what those from `at` on leave, with the lines before them written. A line takes at most 86 bytes
-- of text and its record at least 31. The measure is what is left of the bytes.
use Prim.Native.Nat.{◌+◌, ◌-◌, ◌*◌, ◌≤◌}
use mathlib.Core.Path.{◌≡◌}
use lib.ListN.{length}
use Rattle.records.proofs.Played.{Goal}
use Rattle.records.proofs.playing.play_all.Given as goal

abbrev pub invariant-loop-h : goal.invariant-loop-h
invariant-loop-h l =
    (l.at ≤ length l.bytes)
    × (31 * l.end ≤ 86 * l.at)
    × (l.n ≤ l.number + l.at)
    × (length l.store ≡ length l.initial.store)
    × (length l.data ≡ length l.initial.data)
    × (length l.output ≡ length l.initial.output)
    × (length l.text ≡ length l.initial.text)
    × Goal l.initial.store l.bytes l.initial.text l.number l.store l.text l.at l.end l.n

abbrev pub decreases-loop-h : goal.decreases-loop-h
decreases-loop-h l = length l.bytes - l.at
