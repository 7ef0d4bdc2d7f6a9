-- By the number of records: the laws `serves_none` and `serves_all` of Serving.
use Rattle.tally.proofs.Serving.{serves_none, serves_all}
use mathlib.Core.Path.{◌≡◌, subst}
use Rattle.store.specs.declared.Layout.{Layout}
use borrow.Author.Rules.{rules}
use Rattle.tally.proofs.layer.serve.Goals as goal

pub returns-then-count-l : goal.returns-then-count-l
returns-then-count-l c = λ ts e.
    let n : c.args.count ≡ c.layout_of-l.result.slots → ⊥ = subst (λ (x : Layout). c.args.count ≡ x.slots → ⊥) c.l.view_is c.if-count-l.true in
    search (rules, serves_none, n)

pub returns : goal.returns
returns c = search (rules, serves_all)
