-- By how far the tests came: the laws `convert-..` of Answers.
use Rattle.store.proofs.Sizes.{known_within, small_told}
use Rattle.l0.proofs.Answers.{convert_other, convert_store, source_formed, convert_length, convert_made}
use Rattle.std.proofs.Common.{rules}
use mathlib.Core.Bool.{not}
use mathlib.Core.Path.{ap}
use Rattle.l0.proofs.conversion.convert.Goals as goal

pub returns-then-source-l : goal.returns-then-source-l
returns-then-source-l c = search (rules, convert_other)

pub well_formed-requires : goal.well_formed-requires
well_formed-requires c = search (rules, small_told)

pub returns-then-not-well_formed : goal.returns-then-not-well_formed
returns-then-not-well_formed c = search (rules, convert_store)

pub returns-then-target-m : goal.returns-then-target-m
returns-then-target-m c = search (rules, convert_length)

pub converted-requires : goal.converted-requires
converted-requires c = (search (rules, known_within), source_formed _ _ _ c.well_formed-2.ensures (ap not c.if-not-well_formed.false), search rules)

pub returns : goal.returns
returns c = search (rules, convert_made)
