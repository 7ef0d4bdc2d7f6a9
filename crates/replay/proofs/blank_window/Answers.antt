-- By `counted`.
use Rattle.replay.proofs.Blank.{counted}
use Rattle.replay.proofs.blank_window.Goals as goal

pub returns : goal.returns
returns c = counted 266240
