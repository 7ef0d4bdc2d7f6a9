-- What was kept lies within the window.
use Rattle.std.proofs.Common.{◌≤◌, length}
use Rattle.replay.proofs.replay_input.Given as goal

abbrev pub invariant-loop : goal.invariant-loop
invariant-loop g l = l.kept ≤ length l.window
