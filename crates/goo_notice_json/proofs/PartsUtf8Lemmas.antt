-- The texts of parts are UTF-8.
use Rattle.std.proofs.Common.{All, Bool, true, false, List, [], ◌∷◌, map, refl, arith}
use Rattle.std.proofs.lemmas.List.Elements.{All-head, All-tail}
use Rattle.std.specs.Str.{IsUtf8}
use Rattle.json.proofs.Printed.Utf8.{IsUtf8-are_ascii}
use Rattle.serde_json.specs.View.{items_of}
use Rattle.goo_types.specs.declared.lot_fields.LotFields.{LotFields}
use Rattle.goo_types.specs.declared.part.Part.{Part}
use Rattle.goo_types.specs.declared.support.Support.{Support}
use Rattle.goo_types.specs.declared.support.Support.TheVariants as support
use Rattle.goo_types.specs.Support.{support_word}
use Rattle.goo_types.specs.Carrier.{carrier_word}
use Rattle.goo_types.specs.declared.carrier.Carrier.{Carrier}
use Rattle.goo_types.specs.declared.carrier.Carrier.TheVariants as carrier
use Rattle.goo_types.proofs.CodeLemmas.{country_utf8, source_utf8, tech_utf8}
use Rattle.goo_types.proofs.GsrnLemmas.{gsrn_utf8}
use Rattle.goo_types.proofs.NameLemmas.{name_utf8}
use Rattle.goo_types.proofs.DayLemmas.{IsUtf8-day_text}
use Rattle.goo_types.proofs.NumberLemmas.{IsUtf8-number_text}
use Rattle.goo_notice_json.specs.Lot.{lot_data, IsStatedLot}
use Rattle.goo_notice_json.specs.Parts.{part_data, IsStatedPart}
use Rattle.goo_notice_json.proofs.FieldLemmas.{fits}
use Rattle.goo_notice_json.proofs.Utf8Lemmas.{HasUtf8, ItemsHaveUtf8, IsUtf8-decimal}

word_utf8 : (s : Support) → IsUtf8 (support_word s)
word_utf8 support.None = IsUtf8-are_ascii _ refl
word_utf8 support.Investment = IsUtf8-are_ascii _ refl
word_utf8 support.Production = IsUtf8-are_ascii _ refl
word_utf8 support.Both = IsUtf8-are_ascii _ refl

carrier_utf8 : (c : Carrier) → IsUtf8 (carrier_word c)
carrier_utf8 carrier.Electricity = IsUtf8-are_ascii _ refl
carrier_utf8 carrier.Gas = IsUtf8-are_ascii _ refl
carrier_utf8 carrier.Hydrogen = IsUtf8-are_ascii _ refl
carrier_utf8 carrier.HeatingCooling = IsUtf8-are_ascii _ refl

lot_utf8 : (b : Bool) (l : LotFields) → IsStatedLot l → HasUtf8 (lot_data b l)
unfolding lot_data
lot_utf8 true l h = (
  IsUtf8-are_ascii _ refl,
  IsUtf8-decimal l.capacity_w (fits 1 100000000000 l.capacity_w h.capacity_w (omega arith)),
  (
    IsUtf8-are_ascii _ refl,
    carrier_utf8 l.carrier,
    (
      IsUtf8-are_ascii _ refl,
      IsUtf8-day_text l.commissioned,
      (
        IsUtf8-are_ascii _ refl,
        country_utf8 l.country h.country,
        (
          IsUtf8-are_ascii _ refl,
          gsrn_utf8 l.device h.device,
          (
            IsUtf8-are_ascii _ refl,
            IsUtf8-day_text l.first_day,
            (
              IsUtf8-are_ascii _ refl,
              IsUtf8-day_text l.issued_on,
              (
                IsUtf8-are_ascii _ refl,
                IsUtf8-day_text l.last_day,
                (
                  IsUtf8-are_ascii _ refl,
                  IsUtf8-decimal l.origin (fits 1 99 l.origin h.origin (omega arith)),
                  (
                    IsUtf8-are_ascii _ refl,
                    name_utf8 l.site h.site,
                    (
                      IsUtf8-are_ascii _ refl,
                      source_utf8 l.source h.source,
                      (
                        IsUtf8-are_ascii _ refl,
                        word_utf8 l.support,
                        (IsUtf8-are_ascii _ refl, tech_utf8 l.tech h.tech, tt),
                      ),
                    ),
                  ),
                ),
              ),
            ),
          ),
        ),
      ),
    ),
  ),
)
lot_utf8 false l h = (
  IsUtf8-are_ascii _ refl,
  IsUtf8-decimal l.capacity_w (fits 1 100000000000 l.capacity_w h.capacity_w (omega arith)),
  (
    IsUtf8-are_ascii _ refl,
    IsUtf8-day_text l.commissioned,
    (
      IsUtf8-are_ascii _ refl,
      country_utf8 l.country h.country,
      (
        IsUtf8-are_ascii _ refl,
        gsrn_utf8 l.device h.device,
        (
          IsUtf8-are_ascii _ refl,
          IsUtf8-day_text l.first_day,
          (
            IsUtf8-are_ascii _ refl,
            IsUtf8-day_text l.issued_on,
            (
              IsUtf8-are_ascii _ refl,
              IsUtf8-day_text l.last_day,
              (
                IsUtf8-are_ascii _ refl,
                IsUtf8-decimal l.origin (fits 1 99 l.origin h.origin (omega arith)),
                (
                  IsUtf8-are_ascii _ refl,
                  name_utf8 l.site h.site,
                  (
                    IsUtf8-are_ascii _ refl,
                    source_utf8 l.source h.source,
                    (
                      IsUtf8-are_ascii _ refl,
                      word_utf8 l.support,
                      (IsUtf8-are_ascii _ refl, tech_utf8 l.tech h.tech, tt),
                    ),
                  ),
                ),
              ),
            ),
          ),
        ),
      ),
    ),
  ),
)

part_utf8 : (b : Bool) (p : Part) → IsStatedPart p → HasUtf8 (part_data b p)
unfolding part_data
part_utf8 b p h = (
  IsUtf8-are_ascii _ refl,
  IsUtf8-number_text p.range.first,
  (
    IsUtf8-are_ascii _ refl,
    IsUtf8-number_text p.range.last,
    (IsUtf8-are_ascii _ refl, lot_utf8 b p.lot h.lot, tt),
  ),
)

pub parts_utf8 : (b : Bool) (ps : List Part) → All IsStatedPart ps → ItemsHaveUtf8 (items_of (map (part_data b) ps))
parts_utf8 b [] h = tt
parts_utf8 b (p ∷ ps) h = (part_utf8 b p (All-head IsStatedPart p ps h), parts_utf8 b ps (All-tail IsStatedPart p ps h))
