-- A law for each return: `refuse_record`, `refuse_short`, `written`.
use borrow.Author.Tests.{not-true, not-false}
use Rattle.records.proofs.WriteLaws.{narrow, length_fits, refuse_record, refuse_short, written}
use borrow.Author.Rules.{rules}
use Rattle.records.proofs.writing.write_record.Goals as goal

pub returns-then-not-can_hold : goal.returns-then-not-can_hold
returns-then-not-can_hold c = search (rules, refuse_record, not-true)

pub overflow_add-len-2 : goal.overflow_add-len-2
overflow_add-len-2 c = length_fits _ _ c.can_hold.ensures c.if-not-can_hold.false

pub returns-then-bytes-len : goal.returns-then-bytes-len
returns-then-bytes-len c = search (rules, refuse_short, not-false)

pub put_head-requires : goal.put_head-requires
put_head-requires c = (search rules, search (rules, narrow, not-false))

pub returns : goal.returns
returns c = search (rules, written, not-false)
