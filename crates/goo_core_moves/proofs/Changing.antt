-- From the rows that a range meets to all rows.
use Rattle.std.proofs.Common.{◌≡◌, ◌∙◌, ℕ, ◌≤◌, List, [], ◌∷◌, Bool, false, if◌then◌else◌, Option, Some, ap, sym, ⊎_elim, inl, inr}
use Rattle.std.specs.Prelude.{All}
use Rattle.std.specs.FinMap.{get}
use Rattle.std.proofs.lemmas.List.Elements.{All-nil}
use Rattle.goo_types.specs.Piece.{Label, at_of}
use Rattle.goo_types.specs.Range.{Numbers}
use Rattle.goo_types.specs.declared.lot_fields.LotFields.{LotFields}
use Rattle.goo_types.specs.declared.piece.Piece.{Piece}
use Rattle.goo_types.specs.declared.place.Place.{Place}
use Rattle.goo_ranges.specs.Change.{inside, set_to}
use Rattle.goo_ranges.specs.declared.edits.Edit.{Edit}
use Rattle.goo_spec.specs.Lots.{Certificates, lot_in}
use Rattle.goo_spec.specs.Maps.{each, give_each}
use Rattle.goo_ranges_rows.specs.Plans.{IsTurned}
use Rattle.goo_ranges_rows.specs.Rows.{AreRowsOf, meeting, edited_all}
use Rattle.goo_ranges_rows.proofs.Chains.{turned-by_book, edits-framed, within-edits}
use Rattle.goo_ranges_rows.proofs.Framing.{met-block}
use Rattle.goo_core_shelf.proofs.Plans.{stay_rising}
use Rattle.goo_ranges_rows.proofs.Mapping.{get-give_each-range}
use Rattle.goo_core_rules.specs.Changes.{AreEditsFor, IsLotOf}
use Rattle.goo_core_rules.proofs.Changing.{small-framed}
use Rattle.goo_core_rules.proofs.Lots.{near_lot, lots_weaker}
use Rattle.goo_core_moves.specs.Changes.{IsTurnedInTurn}

pub set-outside : (range : Numbers) (label : Label) (n : ℕ) (o : Option Label) → inside range.first range.last n ≡ false → set_to range.first range.last label n o ≡ o
set-outside range label n o out = ap (λ (b : Bool). if b then Some label else o) out

-- edits for a range turn all rows into those of the changed map
pub turned_by : (at after : Certificates) (rows : List Piece) (range : Numbers) (edits : List Edit) (change : ℕ → Option Label → Option Label) → range.first ≤ range.last → AreRowsOf at rows
    → ((n : ℕ) (o : Option Label) → inside range.first range.last n ≡ false → change n o ≡ o)
    → ((n : ℕ) → get after n ≡ change n (get at n))
    → AreEditsFor range (meeting range rows) change edits → IsTurnedInTurn (range ∷ []) after rows edits
turned_by at after rows range edits change up kept outside so are =
    let met = meeting range rows in
    let block = met-block range rows kept.disjoint in
    let framed = edits-framed range rows met edits up block kept.disjoint are.within in
    let turned : IsTurned after rows edits = turned-by_book at after rows range edits change up kept are.within outside are.changes so in
    let later : (n : ℕ) (lot : LotFields) → lot_in (at_of (edited_all edits met) n) ≡ Some lot → lot_in (get after n) ≡ Some lot =
    λ n lot is. ap lot_in (sym (turned.fits.same n)) ∙ near_lot (edited_all edits rows) (edited_all edits met) range.first range.last framed.block turned.fits.disjoint n lot is in
    let lot_of : (lot : LotFields) → IsLotOf (at_of met) (at_of (edited_all edits met)) lot → IsLotOf (at_of rows) (get after) lot =
    λ lot is. (
      is.0,
      ⊎_elim
          (λ (before : lot_in (at_of met is.0) ≡ Some lot). inl (near_lot rows met range.first range.last block kept.disjoint is.0 lot before))
          (λ (now : lot_in (at_of (edited_all edits met) is.0) ≡ Some lot). inr (later is.0 lot now))
          is.1,
    ) in
    record {
      turned = turned;
      rising = stay_rising edits rows kept.disjoint (within-edits range rows edits framed.edits);
      small = small-framed (range ∷ []) range rows met edits up block kept.disjoint are.within are.small;
      lots = lots_weaker (IsLotOf (at_of met) (at_of (edited_all edits met))) (IsLotOf (at_of rows) (get after)) lot_of edits are.lots;
    }

-- numbers of a range that get a lot and a place
pub added_turned : (at : Certificates) (rows : List Piece) (range : Numbers) (lot : LotFields) (place : Place) (edits : List Edit) → range.first ≤ range.last → AreRowsOf at rows
    → AreEditsFor range (meeting range rows) (set_to range.first range.last (lot, place)) edits → IsTurnedInTurn (range ∷ []) (give_each (each range) lot place at) rows edits
added_turned at rows range lot place edits up kept are =
    turned_by at (give_each (each range) lot place at) rows range edits (set_to range.first range.last (lot, place)) up kept (set-outside range (lot, place)) (λ n. get-give_each-range range lot place at n up) are

-- no edits leave the rows as they are
pub unturned : (ranges : List Numbers) (at : Certificates) (rows : List Piece) → AreRowsOf at rows → IsTurnedInTurn ranges at rows []
unturned ranges at rows kept = record {
  turned = record { fits = kept; apart = λ apart. apart };
  rising = kept.disjoint;
  small = tt;
  lots = All-nil (λ e. All (λ p. IsLotOf (at_of rows) (get at) p.lot) e.insert.items);
}
