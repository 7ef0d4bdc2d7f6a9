-- What was written, as its three numbers.
use Rattle.adderknot.proofs.Told.{told_record}
use borrow.Author.Rules.{rules}
use Rattle.adderknot.proofs.adk_write_record.Goals as goal

pub returns : goal.returns
returns c = search (rules, told_record)
