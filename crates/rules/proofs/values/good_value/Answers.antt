-- The laws of `good_value`: a register has no rule, get has none, setting has `rule_of`. Assumes nothing.
use Rattle.rules.proofs.Rules.{value_register, value_get, value_set}
use mathlib.Core.Path.{sym, ◌∙◌}
use Rattle.rules.proofs.values.good_value.Goals as goal

pub returns-then-id-ge4096 : goal.returns-then-id-ge4096
returns-then-id-ge4096 c = sym (value_register _ _ _ _ c.if-id-ge4096.true)

pub returns-then-not-setting : goal.returns-then-not-setting
returns-then-not-setting c = sym (value_get _ _ _ _ (sym c.setting.ensures ∙ c.if-not-setting.true))

pub returns : goal.returns
returns c =
    c.meets_rule.ensures
    ∙ sym (value_set _ _ _ _ (sym c.setting.ensures ∙ c.if-not-setting.false))
