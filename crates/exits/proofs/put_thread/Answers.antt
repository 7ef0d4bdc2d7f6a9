-- A register by its size and position (`register-..`), the rest by the element that the number names (`thread-..`).
use Rattle.exits.proofs.Written.{register_fits, register_small, register_room, register_inside, register_next, register_put, thread_fits, thread_room, thread_inside, thread_small, thread_next, thread_put}
use borrow.Author.Rules.{rules}
use native.Mathlib.Omega.{arith}
use Rattle.exits.proofs.put_thread.Goals as goal

pub overflow_add-base : goal.overflow_add-base
overflow_add-base c =
    let e = c.in-Some.ensures in
    record { fits = register_fits _ c.in-Some.r e c.args.base _ c.requires.2 (omega arith) }

pub put_element-requires : goal.put_element-requires
put_element-requires c =
    let e = c.in-Some.ensures in
    (register_room _ c.in-Some.r e _ _ c.requires.3, register_inside _ c.in-Some.r e _ _ c.requires.2, register_small _ c.in-Some.r e c.requires.1)

pub returns-in-Some : goal.returns-in-Some
returns-in-Some c =
    let e = c.in-Some.ensures in
    (register_next _ c.in-Some.r e _ _ c.put_element.ensures.0, register_put _ c.in-Some.r e _ _ _ _ _ c.put_element.ensures.1)

pub overflow_add-base-2 : goal.overflow_add-base-2
overflow_add-base-2 c = search (rules, thread_fits)

pub put_element-requires-2 : goal.put_element-requires-2
put_element-requires-2 c = (search (rules, thread_room), search (rules, thread_inside), search (rules, thread_small))

pub returns : goal.returns
returns c = (search (rules, thread_next), search (rules, thread_put))
