-- Refused, or a window whose numbers fit: `window_refused`, `window_played`.
use borrow.Author.Tests.{not-true, not-false}
use Rattle.records.proofs.Finished.{ready_is, window_refused, window_played}
use borrow.Author.Rules.{rules}
use Rattle.records.proofs.playing.replay.Goals as goal

pub returns-then-not-is_ready : goal.returns-then-not-is_ready
returns-then-not-is_ready c = record { fact = search (rules, window_refused, not-true); within = tt }

pub replay_window-requires : goal.replay_window-requires
replay_window-requires c = (search (rules, ready_is, not-false), search rules, search rules)

pub returns : goal.returns
returns c = record { fact = search (rules, window_played, not-false); within = (search rules, search rules) }
