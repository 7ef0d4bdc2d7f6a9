-- What is sent can be stored, and the output can be kept (`part_ready`, `out_keeps`, `send_left`).
use Rattle.l1.proofs.Running.{part_ready, effect_after, out_keeps, send_left}
use borrow.Author.Rules.{rules}
use Rattle.l1.proofs.flush.cache_run.send.Goals as goal

pub apply-requires : goal.apply-requires
apply-requires c = search (rules, part_ready)

pub apply-requires-2 : goal.apply-requires-2
apply-requires-2 c = search (rules, effect_after)

pub refresh-requires : goal.refresh-requires
refresh-requires c = search (rules, out_keeps)

pub returns : goal.returns
returns c = send_left _ _ _ _ _ _ _ _ _ c.requires _ c.put_input.ensures _ c.first_bytes.ensures _ _ _ c.apply.ensures c.apply-2.ensures c.put_output.ensures _ _ c.refresh.ensures
