-- Changes that are gathered edit by edit, and lots under their numbers.
use Rattle.std.proofs.Common.{◌≡◌, ℕ, ℤ, pos, ◌<ℤ◌, List, [], ◌∷◌, ◌++◌, append_assoc, ◌+◌, ◌<◌, map, take, drop, length, get_or, Bool, true, false, cond, find, Option, Some, refl, sym, ap, subst, ◌∙◌, arith}
use Rattle.std.specs.List.{AllZip}
use Rattle.std.specs.Ordering.{int_eq}
use Rattle.std.proofs.lemmas.Cmp.{int_eq_equiv}
use Rattle.std.proofs.lemmas.Int.{ints}
use Rattle.std.proofs.lemmas.List.{drop_more, take_more}
use Rattle.std.proofs.lemmas.List.Elements.{All-from_recursion}
use Rattle.sqlite_keyed.specs.Keyed.{IsKeyedBy, get_by}
use Rattle.sqlite_keyed.proofs.SliceLemmas.{All-find}
use Rattle.goo_types.specs.declared.piece.Piece.{Piece}
use Rattle.goo_types.specs.declared.lot_fields.LotFields.{LotFields}
use Rattle.goo_ranges.specs.declared.edits.Edit.{Edit}
use Rattle.goo_tables_rows.specs.Rows.{Lot, lot_key}
use Rattle.goo_tables_rows.specs.declared.piece.PieceRow.{PieceRow}
use Rattle.goo_spec_tables.specs.Places.{lot_of, piece_of}
use Rattle.goo_spec_tables.specs.Readable.{is_piece}
use Rattle.goo_store_changes.specs.declared.table_change.TableChange.{TableChange}
use Rattle.goo_store_plans.specs.EditChanges.{IsRowOf, AreRowsOf, AreForEdit, AreForEdits}
use Rattle.goo_store_plans.specs.LotNumbers.{IsNumberOf, IsRowOfLot}

pub rows_of_zip : (lots : List Lot) (xs : List PieceRow) (ps : List Piece) → AllZip (λ p x. IsRowOf lots x p) ps xs → AreRowsOf lots xs ps
rows_of_zip lots [] [] are = tt
rows_of_zip lots [] (p ∷ ps) are = absurd are
rows_of_zip lots (x ∷ xs) [] are = absurd are
rows_of_zip lots (x ∷ xs) (p ∷ ps) are = (are.0, rows_of_zip lots xs ps are.1)

-- a row that is found is the one under its number
pub found_by_key : {X : Type 0} (key : X → ℤ) (p : X → Bool) (xs : List X) (x : X) → IsKeyedBy key xs → find p xs ≡ Some x → get_by key xs (key x) ≡ Some x
found_by_key key p [] x rise found = absurd cc
found_by_key {X} key p (y ∷ ys) x rise found = go (p y) found (found_by_key key p ys x rise.1)
  where
    go : (b : Bool) → cond b (Some y) (find p ys) ≡ Some x → (find p ys ≡ Some x → get_by key ys (key x) ≡ Some x) → get_by key (y ∷ ys) (key x) ≡ Some x
    go true here rest =
        let same : y ≡ x = cc in
        subst (λ (z : X). cond (int_eq (key z) (key x)) (Some z) (get_by key ys (key x)) ≡ Some x) (sym same) (ap (λ b. cond b (Some x) (get_by key ys (key x))) (int_eq_equiv.refl (key x)))
    go false later rest =
        let below : key y <ℤ key x = All-find (λ z. key y <ℤ key z) p ys x (All-from_recursion (λ z. key y <ℤ key z) ys rise.0) later in
        let apart : int_eq (key y) (key x) ≡ false = grind (arith, ints) in
        ap (λ b. cond b (Some y) (get_by key ys (key x))) apart ∙ rest later

pub number_is_found : (p : Lot → Bool) (lots : List Lot) (o : Option Lot) (n : ℕ) (lot : LotFields) → IsKeyedBy lot_key lots → o ≡ find p lots → IsRowOfLot o n lot → IsNumberOf lots n lot
number_is_found p lots o n lot rise found it = record {
  row = it.row;
  there = ap (λ k. get_by lot_key lots (pos k)) (sym it.number) ∙ found_by_key lot_key p lots it.row rise (sym found ∙ it.found_is);
  states = it.states;
}

-- one edit more
pub edit_more : (lots : List Lot) (es : List Edit) (e : Edit) (rest all : List Edit) (before front : List TableChange) → es ≡ e ∷ rest → ((more : List TableChange) → AreForEdits lots es more → AreForEdits lots all (before ++ more)) → AreForEdit lots e front
    → (more : List TableChange) → AreForEdits lots rest more → AreForEdits lots all ((before ++ front) ++ more)
edit_more lots es e rest all before front is left for more made =
    rw append_assoc (left (front ++ more) (subst (λ xs. AreForEdits lots xs (front ++ more)) (sym is) (front, more, refl, for, made)))

pub row_is : (lots : List Lot) (x : PieceRow) (p : Piece) (n : ℕ) → x.lot ≡ n → ((l : Lot) → lot_of l ≡ p.lot → piece_of (x, l) ≡ p) → is_piece x ≡ true → IsNumberOf lots n p.lot → IsRowOf lots x p
row_is lots x p n number states reads it = record { lot = it.row; there = ap (λ k. get_by lot_key lots (pos k)) number ∙ it.there; states = states it.row it.states; reads = reads }

-- one element more, put behind through a function
pub pushed : {A B : Type 0} (f : A → B) (before after : List B) (xs : List A) (i : ℕ) (d : A) → i < length xs → after ≡ before ++ f (get_or xs i d) ∷ [] → after ++ map f (drop (i + 1) xs) ≡ before ++ map f (drop i xs)
pushed f before after xs i d low is =
    ap (λ ys. ys ++ map f (drop (i + 1) xs)) is ∙ append_assoc before (f (get_or xs i d) ∷ []) (map f (drop (i + 1) xs)) ∙ ap (λ ys. before ++ map f ys) (sym (drop_more xs i d low))

-- one pair more
pub zip_more : {A B : Type 0} (R : A → B → Type 0) (xs : List A) (ys : List B) (i : ℕ) (x : A) (y : B) → i < length xs → x ≡ get_or xs i x → AllZip R (take i xs) ys → R x y → AllZip R (take (i + 1) xs) (ys ++ y ∷ [])
zip_more {A} {B} R xs ys i x y low is all one =
    subst (λ zs. AllZip R zs (ys ++ y ∷ [])) (sym (take_more xs i x low ∙ ap (λ z. take i xs ++ z ∷ []) (sym is))) (go (take i xs) ys all)
  where
    go : (zs : List A) (ws : List B) → AllZip R zs ws → AllZip R (zs ++ x ∷ []) (ws ++ y ∷ [])
    go [] [] h = (one, tt)
    go [] (w ∷ ws) h = absurd h
    go (z ∷ zs) [] h = absurd h
    go (z ∷ zs) (w ∷ ws) h = (h.0, go zs ws h.1)
