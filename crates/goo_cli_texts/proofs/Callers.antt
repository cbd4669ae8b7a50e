-- The issuing body's word is a caller's code.
use Rattle.std.proofs.Common.{◌≡◌, Ok, refl}
use Rattle.goo_types.specs.Codes.{holder_reading}
use Rattle.goo_types.specs.TextReading.{text_reading}
use Rattle.goo_spec.specs.Checks.{issuer}

pub is_read : holder_reading issuer ≡ Ok issuer
unfolding text_reading
is_read = refl
