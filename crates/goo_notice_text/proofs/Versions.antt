-- Which texts are of which version: lots that state their carrier are none of version 1, lots that don't are none of version 2, and in another version each may do as it likes,
-- so that the version is what such a text is refused for.
use Rattle.std.proofs.Common.{◌≡◌, Bool, true, false, List, [], ◌∷◌, map, Some, None, Ok, Err, refl}
use Rattle.std.specs.Prelude.{pos}
use Rattle.serde_json.specs.View.{items_of}
use Rattle.goo_types.specs.declared.part.Part.{Part}
use Rattle.goo_notice_json.specs.declared.value_fault.ValueFault.TheVariants.{Shape, Field}
use Rattle.goo_notice_json.specs.Fields.{integer_in}
use Rattle.goo_notice_json.specs.Lot.{lot_data, carrier_shape, lot_shape}
use Rattle.goo_notice_json.specs.Parts.{part_data, part_shape, parts_shape}
use Rattle.goo_notice_json.proofs.StatedLotLemmas as lot
use Rattle.goo_notice_text.specs.Notice.{carried_in}

pub no_version_1 : (p : Part) (ps : List Part) → parts_shape (carried_in (pos 1)) (items_of (map (part_data true) (p ∷ ps))) ≡ Err Shape
unfolding parts_shape part_shape part_data lot_shape carrier_shape lot_data
no_version_1 p ps = refl

pub no_version_2 : (p : Part) (ps : List Part) → parts_shape (carried_in (pos 2)) (items_of (map (part_data false) (p ∷ ps))) ≡ Err Shape
unfolding parts_shape part_shape part_data lot_shape carrier_shape lot_data
no_version_2 p ps = refl

pub any_shape : (b : Bool) (ps : List Part) → parts_shape (carried_in (pos 3)) (items_of (map (part_data b) ps)) ≡ Ok 0
unfolding parts_shape part_shape part_data
any_shape b [] = refl
any_shape b (p ∷ ps) = rw (lot.key b p.lot, lot.shape b p.lot, any_shape b ps) refl

pub no_version_3 : integer_in 1 2 (pos 3) ≡ Err Field
no_version_3 = refl
