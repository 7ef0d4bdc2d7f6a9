-- Each return is a law of `live`.
use borrow.Author.Rules.{rules}
use Rattle.store.proofs.Readings.{live_none, live_read}
use Rattle.store.proofs.header.is_live.Goals as goal

pub returns-then-g-lt1 : goal.returns-then-g-lt1
returns-then-g-lt1 c = search (rules, live_none)

pub returns : goal.returns
returns c = search (rules, live_read)
