-- What holds of a call that handed on an error.
use Rattle.std.proofs.Common.{◌≡◌, Result, Ok, Err, IfOk, IsErr, IsErrAnd, IsOkUnless, sym, true≢false}

pub none_made : {X E : Type 0} (r : Result X E) (P : X → Type 0) → IsErr r → IfOk r P
none_made (Ok x) P fails = absurd (true≢false (sym fails))
none_made (Err e) P fails = tt

pub only_for : {X E : Type 0} (f : E) (r : Result X E) → IsErrAnd r (λ e. e ≡ f) → IsOkUnless r f
only_for f (Ok x) fails = absurd fails
only_for f (Err e) fails = fails
