-- The rows that statements find, as pieces.
use Rattle.std.proofs.Common.{◌≡◌, ℕ, ◌==◌, List, [], ◌∷◌, ◌++◌, map, reverse, find, Bool, true, false, cond, Option, Some, option_map, refl, sym, ap, ◌∙◌}
use Rattle.std.specs.List.{filter}
use Rattle.std.proofs.lemmas.List.{reverse-append, map-append}
use Rattle.goo_types.specs.Place.{account_of}
use Rattle.goo_types.specs.declared.place.Place.TheVariants.{Held, Cancelled, Expired, Withdrawn, Exported}
use Rattle.goo_types.specs.declared.piece.Piece.{Piece}
use Rattle.sqlite_keyed.proofs.ListLemmas.{filter-map, filter_same}
use Rattle.goo_tables_rows.specs.Rows.{Lot}
use Rattle.goo_tables_rows.specs.declared.piece.PieceRow.{PieceRow}
use Rattle.goo_spec_tables.specs.Places.{place_of, piece_of}

-- rows that pass a test, where the test is that of their pieces
pub filtered : (test : PieceRow × Lot → Bool) (p : Piece → Bool) → ((a : PieceRow × Lot) → test a ≡ p (piece_of a)) → (xs found : List (PieceRow × Lot)) (ps : List Piece)
    → found ≡ filter test xs → ps ≡ map piece_of found → ps ≡ filter p (map piece_of xs)
filtered test p same xs found ps is read = read ∙ ap (map piece_of) (is ∙ filter_same test (λ a. p (piece_of a)) same xs) ∙ sym (filter-map p piece_of xs)

-- a place names the account of its row, whatever its kind
pub place_account : (kind account act : ℕ) → account_of (place_of kind account act) ≡ account
place_account kind account act = go (kind == 1) (kind == 2) (kind == 3) (kind == 4)
  where
    go : (a b c d : Bool) → account_of (cond a (Held account) (cond b (Cancelled account act) (cond c (Expired account) (cond d (Withdrawn account act) (Exported account act))))) ≡ account
    go true b c d = refl
    go false true c d = refl
    go false false true d = refl
    go false false false true = refl
    go false false false false = refl

pub first_found : (test : PieceRow × Lot → Bool) (p : Piece → Bool) → ((a : PieceRow × Lot) → test a ≡ p (piece_of a)) → (xs : List (PieceRow × Lot)) → option_map piece_of (find test xs) ≡ find p (map piece_of xs)
first_found test p same [] = refl
first_found test p same (x ∷ xs) = go (test x) (p (piece_of x)) (same x) (first_found test p same xs)
  where
    go : (a b : Bool) → a ≡ b → option_map piece_of (find test xs) ≡ find p (map piece_of xs) → option_map piece_of (cond a (Some x) (find test xs)) ≡ cond b (Some (piece_of x)) (find p (map piece_of xs))
    go true true e rest = refl
    go true false e rest = absurd cc
    go false true e rest = absurd cc
    go false false e rest = rest

reversed : {A B : Type 0} (f : A → B) (xs : List A) → map f (reverse xs) ≡ reverse (map f xs)
reversed f [] = refl
reversed f (x ∷ xs) =
    ap (map f) (reverse-append (x ∷ []) xs) ∙ map-append f (reverse xs) (x ∷ []) ∙ ap (λ ys. ys ++ f x ∷ []) (reversed f xs) ∙ sym (reverse-append (f x ∷ []) (map f xs))

-- the last row that passes a test
pub last_found : (test : PieceRow × Lot → Bool) (p : Piece → Bool) → ((a : PieceRow × Lot) → test a ≡ p (piece_of a)) → (xs : List (PieceRow × Lot)) (found : Option (PieceRow × Lot)) (row : Option Piece)
    → found ≡ find test (reverse xs) → row ≡ option_map piece_of found → row ≡ find p (reverse (map piece_of xs))
last_found test p same xs found row is read = read ∙ ap (option_map piece_of) is ∙ first_found test p same (reverse xs) ∙ ap (find p) (reversed piece_of xs)

-- the first row that passes a test
pub next_found : (test : PieceRow × Lot → Bool) (p : Piece → Bool) → ((a : PieceRow × Lot) → test a ≡ p (piece_of a)) → (xs : List (PieceRow × Lot)) (found : Option (PieceRow × Lot)) (row : Option Piece)
    → found ≡ find test xs → row ≡ option_map piece_of found → row ≡ find p (map piece_of xs)
next_found test p same xs found row is read = read ∙ ap (option_map piece_of) is ∙ first_found test p same xs
