-- The rules on single lots, judged over what was read, are those of the tables.
use Rattle.std.proofs.Common.{◌≡◌, ℤ, true, find, All, Some, sym, subst, int_eq}
use Rattle.std.specs.List.{AllByRecursion, list_all}
use Rattle.std.proofs.lemmas.List.Elements.{All-from_recursion, recursion_from_All}
use Rattle.sqlite_keyed.proofs.ListLemmas.{all_both, all_from_test, all_map, all_unmap}
use Rattle.goo_tables_rows.specs.Rows.{Tables, Lot, lot_key, lot_in, bare_lot}
use Rattle.goo_store_open.specs.Found.{AreOf}
use Rattle.goo_store_open.specs.declared.finding.Found.{Found}
use Rattle.goo_spec_tables.specs.Kept.{IsKeptLot}
use Rattle.goo_spec_tables.specs.Readable.{is_lot}
use Rattle.goo_store_rules.specs.Lots.{IsGoodLot}
use Rattle.goo_store_rules.proofs.Bare.{lot_accepted_bare, lot_carried, lot_bared}
use Rattle.goo_store_rules.proofs.EachRow.{found_both}

module _ (t : Tables) (x : Found) (are : AreOf t x) where
  -- each lot that is found under a number is a good one
  pub lots_kept : All (λ row. IsGoodLot (lot_in row)) x.rows.production.lots.items → (id : ℤ) (l : Lot) → find (λ m. int_eq (lot_key m) id) t.lots ≡ Some l → IsKeptLot l
  lots_kept all id l is =
      let items = x.rows.production.lots.items in
      let good = subst (AllByRecursion IsGoodLot) are.lots (all_map IsGoodLot lot_in items (recursion_from_All (λ row. IsGoodLot (lot_in row)) items all)) in
      let it = (found_both (λ m. int_eq (lot_key m) id) (λ m. IsGoodLot (bare_lot m)) t.lots l is (all_unmap IsGoodLot bare_lot t.lots good)).1 in
      record { valid = lot_carried l it.in_order; expires = it.expires }

  -- and where each lot is found under its number, the other way round
  pub lots_good : list_all is_lot t.lots ≡ true → AllByRecursion (λ l. find (λ m. int_eq (lot_key m) (lot_key l)) t.lots ≡ Some l) t.lots
      → ((id : ℤ) (l : Lot) → find (λ m. int_eq (lot_key m) id) t.lots ≡ Some l → IsKeptLot l) → All (λ row. IsGoodLot (lot_in row)) x.rows.production.lots.items
  lots_good reads found kept =
      let items = x.rows.production.lots.items in
      let good = all_both _ _ (λ l. IsGoodLot (bare_lot l)) (λ l read is. let it = kept (lot_key l) l is in record { accepted = lot_accepted_bare l read; in_order = lot_bared l it.valid; expires = it.expires }) t.lots (all_from_test is_lot t.lots reads) found in
      All-from_recursion (λ row. IsGoodLot (lot_in row)) items (all_unmap IsGoodLot lot_in items (subst (AllByRecursion IsGoodLot) (sym are.lots) (all_map IsGoodLot bare_lot t.lots good)))
