-- The part is the one that `lookup` tells.
use mathlib.Core.Path.{ap}
use Rattle.gsb.specs.Lookup.{part_in}
use Rattle.gsb.proofs.LookupLaws.{value_part}
use Rattle.gsb.proofs.lookups.lookup_value.Goals as goal

pub returns : goal.returns
returns c = value_part _ _ _ c.in-Ok.ensures.value

pub returns-in_default : goal.returns-in_default
returns-in_default c = ap (part_in c.args.b.now) c.in_default.ensures.value
