-- Lots more in the tables, which leave each piece the lot that it had.
use Rattle.std.proofs.Common.{◌≡◌, ℤ, pos, ◌&&◌, List, [], ◌∷◌, Bool, true, false, cond, map, is_some, Option, Some, None, option_map, refl, ap, sym, subst, ◌∙◌, true≢false}
use Rattle.std.specs.List.{list_all, cons_option}
use Rattle.std.specs.Ordering.{int_eq}
use Rattle.sqlite_keyed.specs.Keyed.{get_by, has_key, insert_by}
use Rattle.sqlite_keyed.proofs.KeyedLemmas.{same_int, has_key-insert_by}
use Rattle.sqlite_keyed.proofs.RuleLemmas.{first_of_both, second_of_both}
use Rattle.goo_types.specs.Day.{day_reading}
use Rattle.goo_types.specs.Gsrn.{gsrn_reading}
use Rattle.goo_tables_rows.specs.Beside.{beside}
use Rattle.goo_tables_rows.specs.Rows.{Tables, Lot, LotCarrier, lot_key}
use Rattle.goo_tables_rows.specs.declared.piece.PieceRow.{PieceRow}
use Rattle.goo_spec_tables.specs.Kept.{AreKept, IsKeptLot}
use Rattle.goo_spec_tables.specs.Places.{piece_of}
use Rattle.goo_tables_accounts.specs.Changes.{with_lot_word}
use Rattle.goo_spec_tables.specs.Readable.{is_lot, is_lot_carrier, is_maybe_other, is_code, is_plant, reads}
use Rattle.goo_spec_tables.proofs.Inserted.{all_inserted}
use Rattle.goo_store_plans.proofs.CarriersAdded.{HaveLots, lot_words_read, lot_words_there}
use Rattle.goo_store_plans.proofs.RegisteringActed.{find_put}

pub none_there : {X : Type 0} (o : Option X) → is_some o ≡ false → o ≡ None
none_there None is = refl
none_there (Some x) is = absurd (true≢false is)

-- what holds of the lots of a table's pieces and of the carriers of lots, while lots are added
pub record AreLotsOf (t : Tables) (lots : List Lot) (carriers : List LotCarrier) : Type 0 where
  pub read : list_all is_lot lots ≡ true
  pub have : list_all (λ p. has_key lot_key lots (pos p.lot)) t.pieces ≡ true
  pub rows : map piece_of (beside lots t.pieces) ≡ map piece_of (beside t.lots t.pieces)
  pub lots_kept : (id : ℤ) (l : Lot) → get_by lot_key lots id ≡ Some l → IsKeptLot l
  pub carriers_read : list_all is_lot_carrier carriers ≡ true
  pub carried : HaveLots lots carriers

pub lots_before : (t : Tables) → AreKept t → AreLotsOf t t.lots t.lot_carriers
lots_before t kept = record { read = kept.readable.lots; have = kept.lots_there; rows = refl; lots_kept = kept.lots; carriers_read = kept.readable.lot_carriers; carried = kept.carried_lots_there }

-- the carrier that a row states
pub carrier_of_row : (l : Lot) → is_lot l ≡ true → is_maybe_other l.carrier ≡ true
carrier_of_row l read =
    let device = second_of_both (is_code l.origin) _ read in
    let plant = second_of_both (reads (gsrn_reading l.device)) _ device in
    let first = second_of_both (is_plant l.plant) _ plant in
    let last = second_of_both (reads (day_reading l.first_day)) _ first in
    let issued = second_of_both (reads (day_reading l.last_day)) _ last in
    second_of_both (reads (day_reading l.issued_on)) _ issued

module _ (lots : List Lot) (x : Lot) (fresh : has_key lot_key lots (lot_key x) ≡ false) where
  -- a number leads to the new lot, or to the lot that it led to
  found_more : (id : ℤ) → get_by lot_key (insert_by lot_key lots x) id ≡ cond (int_eq (lot_key x) id) (Some x) (get_by lot_key lots id)
  found_more id =
      find_put lot_key (λ l. int_eq (lot_key l) id) x lots fresh
      (λ is. subst (λ k. get_by lot_key lots k ≡ None) (same_int (lot_key x) id is) (none_there (get_by lot_key lots (lot_key x)) fresh))

  same_found : (id : ℤ) → has_key lot_key lots id ≡ true → get_by lot_key (insert_by lot_key lots x) id ≡ get_by lot_key lots id
  same_found id there = found_more id ∙ go (int_eq (lot_key x) id) refl
    where
      go : (b : Bool) → int_eq (lot_key x) id ≡ b → cond b (Some x) (get_by lot_key lots id) ≡ get_by lot_key lots id
      go true is = absurd (true≢false (sym there ∙ sym (ap (has_key lot_key lots) (same_int (lot_key x) id is)) ∙ fresh))
      go false is = refl

  have_more : (ps : List PieceRow) → list_all (λ p. has_key lot_key lots (pos p.lot)) ps ≡ true → list_all (λ p. has_key lot_key (insert_by lot_key lots x) (pos p.lot)) ps ≡ true
  have_more [] have = refl
  have_more (p ∷ ps) have =
      λ i. has_key-insert_by lot_key lots x (pos p.lot) (first_of_both (has_key lot_key lots (pos p.lot)) _ have) i
      && have_more ps (second_of_both (has_key lot_key lots (pos p.lot)) _ have) i

  beside_same : (ps : List PieceRow) → list_all (λ p. has_key lot_key lots (pos p.lot)) ps ≡ true → beside (insert_by lot_key lots x) ps ≡ beside lots ps
  beside_same [] have = refl
  beside_same (p ∷ ps) have =
      λ i. cons_option (option_map (λ l. (p, l)) (same_found (pos p.lot) (first_of_both (has_key lot_key lots (pos p.lot)) _ have) i))
      (beside_same ps (second_of_both (has_key lot_key lots (pos p.lot)) _ have) i)

  -- a lot more, under a number that no lot has
  pub lot_more : (t : Tables) (carriers : List LotCarrier) → AreLotsOf t lots carriers → is_lot x ≡ true → IsKeptLot x → AreLotsOf t (insert_by lot_key lots x) (with_lot_word carriers x.id x.carrier)
  lot_more t carriers it reads kept = record {
    read = all_inserted lot_key is_lot x reads lots it.read;
    have = have_more t.pieces it.have;
    rows = ap (map piece_of) (beside_same t.pieces it.have) ∙ it.rows;
    lots_kept = λ id l is. go id l (int_eq (lot_key x) id) (sym (found_more id) ∙ is);
    carriers_read = lot_words_read carriers x.id x.carrier (carrier_of_row x reads) it.carriers_read;
    carried = lot_words_there lots carriers x fresh it.carried;
  }
    where
      go : (id : ℤ) (l : Lot) (b : Bool) → cond b (Some x) (get_by lot_key lots id) ≡ Some l → IsKeptLot l
      go id l true is = let same : x ≡ l = cc in subst IsKeptLot same kept
      go id l false is = it.lots_kept id l is
