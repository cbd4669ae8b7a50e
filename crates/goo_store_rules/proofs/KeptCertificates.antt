-- What holds of each row that rises holds of each certificate, and back.
use Rattle.std.proofs.Common.{◌≡◌, ℕ, ◌+◌, ◌<◌, ◌≤◌, ◌&&◌, List, [], ◌∷◌, Bool, true, false, cond, map, is_some, Option, Some, None, option_map, refl, sym, ap, subst, ◌∙◌, arith, true≢false}
use Rattle.std.specs.Prelude.{nat_le}
use Rattle.std.specs.List.{list_all, cons_option}
use Rattle.std.specs.FinMap.{get}
use Rattle.std.proofs.lemmas.Bool.{and_parts, and_from, leb-true, le-leb}
use Rattle.goo_types.specs.Piece.{Label, label_of, covers, at_of, IsRising, IsRisingFrom}
use Rattle.goo_types.specs.declared.lot_fields.LotFields.{LotFields}
use Rattle.goo_types.specs.declared.piece.Piece.{Piece}
use Rattle.goo_types.specs.declared.place.Place.{Place}
use Rattle.goo_tables_rows.specs.Beside.{beside}
use Rattle.goo_tables_rows.specs.Rows.{Tables, Lot, lot_key}
use Rattle.goo_tables_rows.specs.declared.piece.PieceRow.{PieceRow}
use Rattle.goo_spec_tables.specs.Places.{piece_of, rows_of}
use Rattle.goo_spec_tables.specs.Readable.{is_piece}
use Rattle.goo_spec_tables.specs.States.{state_of}
use Rattle.goo_store_rules.proofs.RowsByKey.{row_under}

-- rows that rise have the certificates of the state; goo_core_list's `certificates-rows` says so of any rows
abbrev pub HasItsCertificates : Tables → Type 0
HasItsCertificates t = IsRising (rows_of t) → (n : ℕ) → at_of (rows_of t) n ≡ get (state_of t).at n

-- of each certificate, by its number, its lot and its place
abbrev pub OfEach : (ℕ → LotFields → Place → Type 0) → (ℕ → Option Label) → Type 0
OfEach P at = (n : ℕ) (lot : LotFields) (place : Place) → at n ≡ Some (lot, place) → P n lot place

-- of each number of a piece
abbrev pub OfPiece : (ℕ → LotFields → Place → Type 0) → Piece → Type 0
OfPiece P p = (n : ℕ) → p.first ≤ n → n ≤ p.last → P n p.lot p.place

-- each row's lot is there
abbrev pub have_lots : List Lot → List PieceRow → Bool
have_lots lots ps = list_all (λ p. is_some (row_under lot_key lots p.lot)) ps

ends : (p : Piece) (n : ℕ) → covers p n ≡ true → (p.first ≤ n) × (n ≤ p.last)
ends p n within = let parts = and_parts (nat_le p.first n) (nat_le n p.last) within in (leb-true p.first n parts.0, leb-true n p.last parts.1)

has : (p : Piece) (ps : List Piece) (n : ℕ) → p.first ≤ n → n ≤ p.last → at_of (p ∷ ps) n ≡ Some (p.lot, p.place)
has p ps n from to = ap (λ b. cond b (Some (label_of p)) (at_of ps n)) (and_from (nat_le p.first n) (nat_le n p.last) (le-leb p.first n from) (le-leb n p.last to))

-- no piece behind has a number below them
none_below : (low : ℕ) (ps : List Piece) (n : ℕ) → IsRisingFrom low ps → n < low → at_of ps n ≡ None
none_below low [] n up below = refl
none_below low (p ∷ ps) n up below =
    let first = up.0 in
    let forward = up.1.0 in
    go (covers p n) refl first (none_below (p.last + 1) ps n up.2 (omega (arith, forward, below, first)))
  where
    go : (b : Bool) → covers p n ≡ b → low ≤ p.first → at_of ps n ≡ None → cond b (Some (label_of p)) (at_of ps n) ≡ None
    go true within first none = let from = (ends p n within).0 in absurd (omega (arith, from, below, first))
    go false outside first none = none

later : (low : ℕ) (p : Piece) (ps : List Piece) → IsRisingFrom low (p ∷ ps) → (n : ℕ) (label : Label) → at_of ps n ≡ Some label → at_of (p ∷ ps) n ≡ Some label
later low p ps up n label is = go (covers p n) refl
  where
    go : (b : Bool) → covers p n ≡ b → cond b (Some (label_of p)) (at_of ps n) ≡ Some label
    go true within =
        let to = (ends p n within).1 in
        let none = none_below (p.last + 1) ps n up.2 (omega (arith, to)) in
        absurd cc
    go false outside = is

-- ---- a rule of rows, and a fact of certificates

module _ (lots : List Lot) (P : ℕ → LotFields → Place → Type 0) (rule : PieceRow → Bool) where
  -- the rule gives the fact at each number of a row
  abbrev pub Gives : Type 0
  Gives = (p : PieceRow) (l : Lot) → is_piece p ≡ true → row_under lot_key lots p.lot ≡ Some l → rule p ≡ true → OfPiece P (piece_of (p, l))

  -- and the fact at each number of a row gives the rule
  abbrev pub Takes : Type 0
  Takes = (p : PieceRow) (l : Lot) → is_piece p ≡ true → row_under lot_key lots p.lot ≡ Some l → OfPiece P (piece_of (p, l)) → rule p ≡ true

  each_from : Gives → (ps : List PieceRow) → list_all is_piece ps ≡ true → list_all rule ps ≡ true → OfEach P (at_of (map piece_of (beside lots ps)))
  each_from gives [] good all n lot place is = absurd cc
  each_from gives (p ∷ ps) good all n lot place is =
      let reads = and_parts (is_piece p) (list_all is_piece ps) good in
      let passes = and_parts (rule p) (list_all rule ps) all in
      go (row_under lot_key lots p.lot) refl is reads.0 passes.0 (each_from gives ps reads.1 passes.1 n lot place)
    where
      here : (l : Lot) → OfPiece P (piece_of (p, l)) → (b : Bool) → covers (piece_of (p, l)) n ≡ b → cond b (Some (label_of (piece_of (p, l)))) (at_of (map piece_of (beside lots ps)) n) ≡ Some (lot, place)
          → (at_of (map piece_of (beside lots ps)) n ≡ Some (lot, place) → P n lot place) → P n lot place
      here l of true within at more =
          let same : label_of (piece_of (p, l)) ≡ (lot, place) = cc in
          let both = ends (piece_of (p, l)) n within in
          subst (λ (k : Label). P n k.0 k.1) same (of n both.0 both.1)
      here l of false outside at more = more at

      go : (o : Option Lot) → row_under lot_key lots p.lot ≡ o → at_of (map piece_of (cons_option (option_map (λ l. (p, l)) o) (beside lots ps))) n ≡ Some (lot, place) → is_piece p ≡ true → rule p ≡ true
          → (at_of (map piece_of (beside lots ps)) n ≡ Some (lot, place) → P n lot place) → P n lot place
      go None found at reads passes more = more at
      go (Some l) found at reads passes more = here l (gives p l reads found passes) (covers (piece_of (p, l)) n) refl at more

  each_back : Takes → (low : ℕ) (ps : List PieceRow) → list_all is_piece ps ≡ true → have_lots lots ps ≡ true → IsRisingFrom low (map piece_of (beside lots ps)) → OfEach P (at_of (map piece_of (beside lots ps)))
      → list_all rule ps ≡ true
  each_back takes low [] good there up each = refl
  each_back takes low (p ∷ ps) good there up each =
      let reads = and_parts (is_piece p) (list_all is_piece ps) good in
      let some = and_parts (is_some (row_under lot_key lots p.lot)) (have_lots lots ps) there in
      go (row_under lot_key lots p.lot) refl some.0 reads.0 up each (each_back takes (p.last + 1) ps reads.1 some.1)
    where
      go : (o : Option Lot) → row_under lot_key lots p.lot ≡ o → is_some o ≡ true → is_piece p ≡ true → IsRisingFrom low (map piece_of (cons_option (option_map (λ l. (p, l)) o) (beside lots ps)))
          → OfEach P (at_of (map piece_of (cons_option (option_map (λ l. (p, l)) o) (beside lots ps))))
          → (IsRisingFrom (p.last + 1) (map piece_of (beside lots ps)) → OfEach P (at_of (map piece_of (beside lots ps))) → list_all rule ps ≡ true) → (rule p && list_all rule ps) ≡ true
      go None found some reads up each more = absurd (true≢false (sym some))
      go (Some l) found some reads up each more =
          and_from (rule p) (list_all rule ps) (takes p l reads found (λ n from to. each n (piece_of (p, l)).lot (piece_of (p, l)).place (has (piece_of (p, l)) (map piece_of (beside lots ps)) n from to)))
          (more up.2 (λ n lot place is. each n lot place (later low (piece_of (p, l)) (map piece_of (beside lots ps)) up n (lot, place) is)))

-- A rule of rows is a fact of certificates.
module _ (t : Tables) (has_its : HasItsCertificates t) (good : list_all is_piece t.pieces ≡ true) (up : IsRising (rows_of t)) (P : ℕ → LotFields → Place → Type 0) (rule : PieceRow → Bool) where
  pub judged : Gives t.lots P rule → list_all rule t.pieces ≡ true → OfEach P (get (state_of t).at)
  unfolding rows_of
  judged gives all n lot place is = each_from t.lots P rule gives t.pieces good all n lot place (has_its up n ∙ is)

  pub judged_back : Takes t.lots P rule → have_lots t.lots t.pieces ≡ true → OfEach P (get (state_of t).at) → list_all rule t.pieces ≡ true
  unfolding rows_of
  judged_back takes there each = each_back t.lots P rule takes 0 t.pieces good there up (λ n lot place is. each n lot place (sym (has_its up n) ∙ is))
