-- What a `?` passes on.
use Rattle.std.proofs.Common.{◌≡◌, ap, Result, Ok, Err}
use Rattle.std.specs.Result.{IsErrAnd}

-- the same error
pub passed_on : {A E : Type 0} {e : E} (r : Result A E) → IsErrAnd r (λ x. x ≡ e) → r ≡ Err e
passed_on (Ok a) h = absurd h
passed_on (Err x) h = ap Err h
