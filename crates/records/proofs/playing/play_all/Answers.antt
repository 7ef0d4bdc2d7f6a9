use native.Mathlib.Omega.{arith}
use borrow.Author.Rules.{rules}
use Rattle.records.proofs.Played.{goal_start, goal_turn, goal_unread, there}
use Rattle.records.proofs.playing.play_all.Goals as goal

pub loop-h-init : goal.loop-h-init
loop-h-init c = (search rules, search rules, search rules, search rules, search rules, search rules, search rules, goal_start _ _ _ _)

pub play-answer-requires : goal.play-answer-requires
play-answer-requires c =
    let w = there _ _ _ _ c.read_head.ensures c.in-Ok.is in
    (w.is, w.inside, omega (arith, w.data_fits), search rules)

pub push_record-end-requires : goal.push_record-end-requires
push_record-end-requires c =
    let w = there _ _ _ _ c.read_head.ensures c.in-Ok.is in
    let i = c.loop-h.invariant in
    (w.kind, omega (arith, w.inside, i.1))

pub overflow_add-at : goal.overflow_add-at
overflow_add-at c =
    let w = there _ _ _ _ c.read_head.ensures c.in-Ok.is in
    let i = c.loop-h.invariant in
    omega (arith, w.inside, i.2, c.requires.3)

pub overflow_add-at-in-Ok : goal.overflow_add-at-in-Ok
overflow_add-at-in-Ok c =
    let w = there _ _ _ _ c.read_head.ensures c.in-Ok.is in
    let i = c.loop-h.invariant in
    omega (arith, w.inside, i.2, c.requires.3)

pub overflow_add-at-in-Ok-2 : goal.overflow_add-at-in-Ok-2
overflow_add-at-in-Ok-2 c =
    let w = there _ _ _ _ c.read_head.ensures c.in-Ok.is in
    let i = c.loop-h.invariant in
    omega (arith, w.inside, i.2, c.requires.3)

pub overflow_add-n : goal.overflow_add-n
overflow_add-n c =
    let w = there _ _ _ _ c.read_head.ensures c.in-Ok.is in
    let i = c.loop-h.invariant in
    omega (arith, w.inside, i.2, c.requires.3)

pub loop-h-smaller : goal.loop-h-smaller
loop-h-smaller c = let w = there _ _ _ _ c.read_head.ensures c.in-Ok.is in omega (arith, w.inside)

pub loop-h-preserved : goal.loop-h-preserved
loop-h-preserved c =
    let w = there _ _ _ _ c.read_head.ensures c.in-Ok.is in
    let i = c.loop-h.invariant in (
      omega (arith, w.inside),
      omega (arith, i.1, c.push_record-end.ensures.1),
      omega (arith, i.2),
      search rules,
      search rules,
      search rules,
      search rules,
      goal_turn _ _ _ _ _ _ _ _ _ i.7 _ c.read_head.ensures _ _ _ _ _ i.3 c.in-Ok.is c.play-answer.ensures c.push_record-end.ensures.0,
    )

pub returns-in-Err : goal.returns-in-Err
returns-in-Err c = record { fact = search (rules, goal_unread); at_in_bounds = (search rules, search rules) }
