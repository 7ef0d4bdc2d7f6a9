-- By the two tests.
use Rattle.gsb.proofs.Tests.{tests}
use Rattle.gsb.proofs.judging.bad_length.Goals as goal

pub returns-then-b-lt4 : goal.returns-then-b-lt4
returns-then-b-lt4 c = search tests

pub returns : goal.returns
returns c = search tests
