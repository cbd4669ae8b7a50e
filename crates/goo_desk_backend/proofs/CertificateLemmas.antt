-- A certificate's text has no number with a fraction.
use Rattle.std.proofs.Common.{◌≡◌, ℕ, false, refl}
use Rattle.serde_json.specs.Written.{has_float}
use Rattle.goo_types.specs.declared.lot_fields.LotFields.{LotFields}
use Rattle.goo_types.specs.declared.place.Place.{Place}
use Rattle.goo_notice_json.specs.Lot.{is_other}
use Rattle.goo_notice_json.proofs.StatedLotLemmas as stated
use Rattle.goo_desk_backend.specs.Certificates.{certificate_data}

pub no_float : (n : ℕ) (lot : LotFields) (place : Place) → has_float (certificate_data n lot place) ≡ false
unfolding certificate_data
no_float n lot place = rw (stated.no_float (is_other lot.carrier) lot) refl
