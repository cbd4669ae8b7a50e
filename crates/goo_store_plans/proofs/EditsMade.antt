-- Edits of rows that are carried out by changes of pieces.
use Rattle.std.proofs.Common.{◌≡◌, ℕ, pos, ◌∷◌, [], ◌++◌, List, Bool, true, false, not, cond, ◌&&◌, map, is_some, refl, ap, sym, subst, ◌∙◌}
use Rattle.std.specs.List.{list_all, filter}
use Rattle.std.specs.Ordering.{int_eq}
use Rattle.std.proofs.lemmas.List.Sums.{fold-append}
use Rattle.sqlite_keyed.specs.Keyed.{IsKeyedBy, has_key, get_by, insert_by}
use Rattle.sqlite_keyed.specs.Lists.{delete_where}
use Rattle.sqlite_keyed.proofs.KeyedLemmas.{IsKeyedBy-insert_by, IsKeyedBy-delete_where}
use Rattle.sqlite_keyed.proofs.RuleLemmas.{first_of_both, second_of_both}
use Rattle.goo_types.specs.declared.piece.Piece.{Piece}
use Rattle.goo_types.specs.Piece.{IsRising}
use Rattle.goo_ranges.specs.declared.edits.Edit.{Edit}
use Rattle.goo_ranges_rows.specs.Rows.{with, with_each, without_each, edited, edited_all}
use Rattle.goo_core_shelf.specs.Plan.{StayRising}
use Rattle.goo_tables_rows.specs.Rows.{Tables, Lot, lot_key, piece_key}
use Rattle.goo_tables_rows.specs.declared.piece.PieceRow.{PieceRow}
use Rattle.goo_tables_accounts.specs.Changes.{without_piece, with_piece}
use Rattle.goo_store_changes.specs.Changes.{made_all, IsFree, AreFree}
use Rattle.goo_store_plans.specs.EditChanges.{AreRowsOf, AreForEdit, AreForEdits}
use Rattle.goo_spec_tables.specs.Readable.{is_piece}
use Rattle.goo_store_changes.specs.declared.table_change.TableChange.{TableChange}
use Rattle.goo_store_changes.specs.declared.table_change.TableChange.TheVariants.{DeletePiece, InsertPiece}
use Rattle.goo_spec_tables.proofs.Inserted.{all_inserted}
use Rattle.goo_store_plans.proofs.InTurn.{none_in_turn, first_in_turn, both_in_turn}
use Rattle.goo_store_plans.proofs.LotsAdded.{none_there}
use Rattle.goo_store_plans.proofs.RowChanges.{rows_for, HaveLots, begins_at, new_row, number_free, row_inserted, row_removed}

pub all_filtered : {A : Type 0} (p q : A → Bool) (xs : List A) → list_all p xs ≡ true → list_all p (filter q xs) ≡ true
all_filtered p q [] all = refl
all_filtered p q (x ∷ xs) all = go (q x) (all_filtered p q xs (second_of_both (p x) (list_all p xs) all))
  where
    go : (b : Bool) → list_all p (filter q xs) ≡ true → list_all p (cond b (x ∷ filter q xs) (filter q xs)) ≡ true
    go true rest = λ i. first_of_both (p x) (list_all p xs) all i && rest i
    go false rest = rest

module _ (lots : List Lot) where
  -- what holds of pieces all along
  pub record AreGood (ps : List PieceRow) : Type 0 where
    pub have : HaveLots lots ps
    pub rise : IsKeyedBy piece_key ps
    pub read : list_all is_piece ps ≡ true

  -- the changes are free, and only the pieces change, to such with these rows
  pub record Leave (t : Tables) (changes : List TableChange) (rows : List Piece) : Type 0 where
    pub pieces : List PieceRow
    pub tables : made_all t changes ≡ record t { pieces = pieces }
    pub free : AreFree t changes
    pub rows_are : rows_for lots pieces ≡ rows
    pub good : AreGood pieces

  good_without : (k : ℕ) (ps : List PieceRow) → AreGood ps → AreGood (delete_where (λ p. int_eq (piece_key p) (pos k)) ps)
  good_without k ps good = record {
    have = all_filtered (λ p. has_key lot_key lots (pos p.lot)) (λ p. not (int_eq (piece_key p) (pos k))) ps good.have;
    rise = IsKeyedBy-delete_where piece_key (λ p. int_eq (piece_key p) (pos k)) ps good.rise;
    read = all_filtered is_piece (λ p. not (int_eq (piece_key p) (pos k))) ps good.read;
  }

  deletes_made : (ks : List ℕ) (t : Tables) → AreGood t.pieces → Leave t (map (λ k. DeletePiece k) ks) (without_each ks (rows_for lots t.pieces))
  deletes_made [] t good = record { pieces = t.pieces; tables = refl; free = none_in_turn IsFree t; rows_are = refl; good = good }
  deletes_made (k ∷ ks) t good =
      let rest = deletes_made ks (without_piece t k) (good_without k t.pieces good) in record {
        pieces = rest.pieces;
        tables = rest.tables;
        free = first_in_turn IsFree t (DeletePiece k) (map (λ n. DeletePiece n) ks) tt rest.free;
        rows_are = rest.rows_are ∙ ap (without_each ks) (row_removed lots k t.pieces good.have good.rise);
        good = rest.good;
      }

  inserts_made : (xs : List PieceRow) (ps : List Piece) → AreRowsOf lots xs ps → (t : Tables) → AreGood t.pieces → IsRising (with_each ps (rows_for lots t.pieces))
      → Leave t (map (λ x. InsertPiece x) xs) (with_each ps (rows_for lots t.pieces))
  inserts_made [] [] are t good rising = record { pieces = t.pieces; tables = refl; free = none_in_turn IsFree t; rows_are = refl; good = good }
  inserts_made [] (p ∷ ps) are t good rising = absurd are
  inserts_made (x ∷ xs) [] are t good rising = absurd are
  inserts_made (x ∷ xs) (p ∷ ps) are t good rising =
      let row = are.0 in
      let starts : p.first ≡ x.first = sym (ap (λ (q : Piece). q.first) row.states) in
      let fresh : has_key piece_key t.pieces (pos x.first) ≡ false =
      number_free lots x.first t.pieces good.have (subst (λ f. begins_at f (rows_for lots t.pieces) ≡ 0) starts (new_row p ps (rows_for lots t.pieces) rising)) in
      let put : rows_for lots (insert_by piece_key t.pieces x) ≡ with p (rows_for lots t.pieces) =
      row_inserted lots x row.lot row.there t.pieces good.have fresh ∙ ap (λ q. with q (rows_for lots t.pieces)) row.states in
      let good_after : AreGood (insert_by piece_key t.pieces x) = record {
        have = all_inserted piece_key (λ q. has_key lot_key lots (pos q.lot)) x (ap is_some row.there) t.pieces good.have;
        rise = IsKeyedBy-insert_by piece_key t.pieces x good.rise;
        read = all_inserted piece_key is_piece x row.reads t.pieces good.read;
      } in
      let rest = inserts_made xs ps are.1 (with_piece t x) good_after (subst (λ rows. IsRising (with_each ps rows)) (sym put) rising) in record {
        pieces = rest.pieces;
        tables = rest.tables;
        free = first_in_turn IsFree t (InsertPiece x) (map (λ y. InsertPiece y) xs) (none_there (get_by piece_key t.pieces (pos x.first)) fresh) rest.free;
        rows_are = rest.rows_are ∙ ap (with_each ps) put;
        good = rest.good;
      }

  made_then : (t : Tables) (front back : List TableChange) → made_all t (front ++ back) ≡ made_all (made_all t front) back
  made_then t front back = fold-append _ t front back

  edit_made : (e : Edit) (changes : List TableChange) → AreForEdit lots e changes → (t : Tables) → AreGood t.pieces → IsRising (edited e (rows_for lots t.pieces))
      → Leave t changes (edited e (rows_for lots t.pieces))
  unfolding edited
  edit_made e changes for t good rising =
      let out = deletes_made e.delete.items t good in
      let mid : Tables = record t { pieces = out.pieces } in
      let into = inserts_made for.rows e.insert.items for.rows_are mid out.good (subst (λ rows. IsRising (with_each e.insert.items rows)) (sym out.rows_are) rising) in record {
        pieces = into.pieces;
        tables = ap (made_all t) for.changes_are ∙ made_then t (map (λ k. DeletePiece k) e.delete.items) (map (λ x. InsertPiece x) for.rows) ∙ ap (λ u. made_all u (map (λ x. InsertPiece x) for.rows)) out.tables ∙ into.tables;
        free =
            subst (AreFree t) (sym for.changes_are)
            (both_in_turn IsFree t (map (λ k. DeletePiece k) e.delete.items) (map (λ x. InsertPiece x) for.rows) out.free (subst (λ u. AreFree u (map (λ x. InsertPiece x) for.rows)) (sym out.tables) into.free));
        rows_are = into.rows_are ∙ ap (with_each e.insert.items) out.rows_are;
        good = into.good;
      }

  rising_first : (es : List Edit) (rows : List Piece) → StayRising es rows → IsRising rows
  rising_first [] rows rising = rising
  rising_first (e ∷ es) rows rising = rising.0

  -- all edits, one after another
  pub edits_made : (es : List Edit) (changes : List TableChange) → AreForEdits lots es changes → (t : Tables) → AreGood t.pieces → StayRising es (rows_for lots t.pieces)
      → Leave t changes (edited_all es (rows_for lots t.pieces))
  edits_made [] changes none t good rising = record { pieces = t.pieces; tables = ap (made_all t) none; free = subst (AreFree t) (sym none) (none_in_turn IsFree t); rows_are = refl; good = good }
  edits_made (e ∷ es) changes for t good rising =
      let one = edit_made e for.0 for.3 t good (rising_first es (edited e (rows_for lots t.pieces)) rising.1) in
      let mid : Tables = record t { pieces = one.pieces } in
      let rest = edits_made es for.1 for.4 mid one.good (subst (StayRising es) (sym one.rows_are) rising.1) in record {
        pieces = rest.pieces;
        tables = ap (made_all t) for.2 ∙ made_then t for.0 for.1 ∙ ap (λ u. made_all u for.1) one.tables ∙ rest.tables;
        free = subst (AreFree t) (sym for.2) (both_in_turn IsFree t for.0 for.1 one.free (subst (λ u. AreFree u for.1) (sym one.tables) rest.free));
        rows_are = rest.rows_are ∙ ap (edited_all es) one.rows_are;
        good = rest.good;
      }
