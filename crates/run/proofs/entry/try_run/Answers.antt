-- By the judgement: a refusal (`call_off`), or what the run left (`call_left`).
use Rattle.admission.proofs.Leaving.{left_with}
use Rattle.store.proofs.Sizes.{layout_sound}
use Rattle.run.proofs.Runs.{call_lends, call_input, call_effect, call_known, call_room, call_out, call_off, call_left}
use borrow.Author.Rules.{rules}
use Rattle.run.proofs.entry.try_run.Goals as goal

pub first_bytes-part-requires : goal.first_bytes-part-requires
first_bytes-part-requires c = search (rules, call_lends, layout_sound, c.in_ok-target.was)

pub run_at-requires : goal.run_at-requires
run_at-requires c = (
  search (rules, call_input, layout_sound, c.in_ok-target.was),
  search (rules, call_effect, layout_sound, c.in_ok-target.was),
  search (rules, call_known, c.in_ok-target.was),
  search (rules, call_room, layout_sound, c.in_ok-target.was),
  search (rules, call_out, layout_sound, c.in_ok-target.was),
)

pub returns-in_err-target : goal.returns-in_err-target
returns-in_err-target c = rw (left_with _ _ c.from_residual.ensures.1) (search (rules, call_off, c.in_err-target.was))

pub returns : goal.returns
returns c = search (rules, call_left, c.in_ok-target.was)
