-- By how far the tests came: the laws `exit-..` of Runs.
use Rattle.gsb.proofs.Walks.{long_enough}
use Rattle.run.proofs.Runs.{exit_unknown, exit_length, exit_bad, exit_done}
use borrow.Author.Rules.{rules}
use Rattle.run.proofs.judge_exit.Goals as goal

pub returns-then-not-is_known : goal.returns-then-not-is_known
returns-then-not-is_known c = search (rules, exit_unknown)

pub returns-then-bad_length : goal.returns-then-bad_length
returns-then-bad_length c = search (rules, exit_length)

pub first_bad-requires : goal.first_bad-requires
first_bad-requires c = search (rules, long_enough)

pub returns-in-Err : goal.returns-in-Err
returns-in-Err c = search (rules, exit_bad)

pub returns-in-Ok : goal.returns-in-Ok
returns-in-Ok c = search (rules, exit_done)
