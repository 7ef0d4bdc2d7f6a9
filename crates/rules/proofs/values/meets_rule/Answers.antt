-- The listed size of each of the three IDs makes room for what is read (`size_at_lem`). Assumes nothing.
use Rattle.rules.proofs.Rules.{size_at_lem, rule_none}
use Rattle.rules.specs.Rules.{good_pvr, good_input, good_output, rule_of}
use Rattle.elements.specs.Table.{kind_of, find, table, source_of, position, below}
use Prim.Native.Nat.{ℕ}
use native.Mathlib.Omega.{arith}
use mathlib.Core.Path.{refl, sym, ap, ◌∙◌}
use borrow.Author.Rules.{rules}
use Rattle.rules.proofs.values.meets_rule.Goals as goal

pub get32-requires : goal.get32-requires
unfolding kind_of find table source_of position below
get32-requires c = omega (arith, size_at_lem 0x0003 _ refl _ _ c.in-3.is c.requires.0)

pub returns-in-3 : goal.returns-in-3
unfolding rule_of
returns-in-3 c =
    let a = c.args in
    c.good_pvr.ensures ∙ ap (good_pvr a.capabilities) c.get32.ensures
    ∙ ap (λ (i : ℕ). rule_of a.capabilities i a.b.now a.at) (sym c.in-3.is)

pub get64-requires : goal.get64-requires
unfolding kind_of find table source_of position below
get64-requires c = omega (arith, size_at_lem 0x0C00 _ refl _ _ c.in-3072.is c.requires.0)

pub returns-in-3072 : goal.returns-in-3072
unfolding rule_of
returns-in-3072 c =
    let a = c.args in
    c.good_input.ensures ∙ ap good_input c.get64.ensures
    ∙ ap (λ (i : ℕ). rule_of a.capabilities i a.b.now a.at) (sym c.in-3072.is)

pub get64-requires-in-3073 : goal.get64-requires-in-3073
unfolding kind_of find table source_of position below
get64-requires-in-3073 c = omega (arith, size_at_lem 0x0C01 _ refl _ _ c.in-3073.is c.requires.0)

pub returns-in-3073 : goal.returns-in-3073
unfolding rule_of
returns-in-3073 c =
    let a = c.args in
    c.good_output.ensures ∙ ap good_output c.get64-in-3073.ensures
    ∙ ap (λ (i : ℕ). rule_of a.capabilities i a.b.now a.at) (sym c.in-3073.is)

pub returns-in_default : goal.returns-in_default
returns-in_default c = search (rules, rule_none)
