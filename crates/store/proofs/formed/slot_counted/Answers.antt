-- Each return is a law of `slot_counted`.
use borrow.Author.Rules.{rules}
use Rattle.store.proofs.Tests.{slot_zero, slot_unused, slot_dead, slot_once}
use Rattle.store.proofs.formed.slot_counted.Goals.{then-w-l-via-then-w-l, then-w-l-via-else-w-l+then-not-is_live}
use Rattle.store.proofs.formed.slot_counted.Goals as goal

pub returns-then-w-eq0 : goal.returns-then-w-eq0
returns-then-w-eq0 c = search (rules, slot_zero)

pub returns-then-w-l : goal.returns-then-w-l
returns-then-w-l c =
    elim c.then-w-l.branch [
      | then-w-l-via-then-w-l w ↦ search (rules, slot_unused)
      | then-w-l-via-else-w-l+then-not-is_live w ↦ search (rules, slot_dead)
    ]

pub returns : goal.returns
returns c = search (rules, slot_once)
