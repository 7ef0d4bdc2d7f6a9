-- By the guest's own list: the walk stops at what it lacks (`sent_lacks`), or goes to its end.
use Rattle.l1.proofs.Running.{sent_lacks, sent_exit}
use borrow.Author.Rules.{rules}
use Rattle.l1.proofs.flush.cache_run.judge_sent.Goals as goal

pub returns-then-not-good_marks : goal.returns-then-not-good_marks
returns-then-not-good_marks c = search (rules, sent_lacks)

pub returns : goal.returns
returns c = search (rules, sent_exit)
