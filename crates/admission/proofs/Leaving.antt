-- Where a call is left by `?`: the fault is handed on as it is. Assumes nothing.
use Rattle.std.specs.Prelude.{◌≡◌, Result, Ok, Err}
use Rattle.std.specs.Result.{IsErrAnd}
use Rattle.std.proofs.Common.{ap}

pub left_with : {T E : Type 0} (r : Result T E) (f : E) → IsErrAnd r (λ x. x ≡ f) → r ≡ Err f
left_with (Err x) f e = ap Err e
left_with (Ok y) f e = absurd e
