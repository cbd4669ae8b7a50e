-- Rows that are not to be joined are pieces of which none follows the one before it.
use Rattle.std.proofs.Common.{◌≡◌, ◌∙◌, pos, not, List, [], ◌∷◌, Bool, true, false, None, Some, refl, ap, sym, subst, true≢false}
use Rattle.std.specs.List.{list_all}
use Rattle.std.proofs.lemmas.Bool.{and_parts, and_from, not-true}
use Rattle.sqlite_keyed.specs.Keyed.{has_key}
use Rattle.goo_types.specs.Piece.{Follows}
use Rattle.goo_spec.specs.Runs.{IsApart}
use Rattle.goo_tables_rows.specs.Rows.{Tables, Lot, lot_key}
use Rattle.goo_tables_rows.specs.declared.piece.PieceRow.{PieceRow}
use Rattle.goo_spec_tables.specs.Places.{piece_of, rows_of}
use Rattle.goo_spec_tables.specs.Readable.{is_piece}
use Rattle.goo_spec_tables.specs.Renewed.{goes_on, HaveOwnFields}
use Rattle.goo_spec_tables.proofs.Renewing.{rows, have_lots, IsOf, the_lot, rows_found, follows_on, on_where}
use Rattle.goo_store_rules.specs.WellKept.{are_joined}

module _ (lots : List Lot) where
  apart_so : HaveOwnFields lots → (ps : List PieceRow) → list_all is_piece ps ≡ true → have_lots lots ps ≡ true → are_joined None ps ≡ true → IsApart (rows lots ps)
  apart_so own [] good have free = tt
  apart_so own (p ∷ []) good have free =
      let l = the_lot lots p (and_parts (has_key lot_key lots (pos p.lot)) true have).0 in
      subst IsApart (sym (rows_found lots p l.0 l.1 [])) (tt, tt)
  apart_so own (p ∷ q ∷ qs) good have free =
      let first = and_parts (is_piece p) (list_all is_piece (q ∷ qs)) good in
      let second = and_parts (is_piece q) (list_all is_piece qs) first.1 in
      let mine = and_parts (has_key lot_key lots (pos p.lot)) (have_lots lots (q ∷ qs)) have in
      let theirs = and_parts (has_key lot_key lots (pos q.lot)) (have_lots lots qs) mine.1 in
      let l = the_lot lots p mine.0 in
      let m = the_lot lots q theirs.0 in
      let here = and_parts (not (goes_on p q)) (are_joined (Some q) qs) free in
      let none : goes_on p q ≡ false = not-true (goes_on p q) here.0 in
      let rest : IsApart (piece_of (q, m.0) ∷ rows lots qs) = subst IsApart (rows_found lots q m.0 m.1 qs) (apart_so own (q ∷ qs) first.1 mine.1 here.1) in
      subst IsApart (sym (rows_found lots p l.0 l.1 (q ∷ qs) ∙ ap (λ ps. piece_of (p, l.0) ∷ ps) (rows_found lots q m.0 m.1 qs)))
      ((λ f. true≢false (sym (on_where lots own p q l.0 m.0 l.1 m.1 first.0 second.0 f) ∙ none)), rest)

  back : (ps : List PieceRow) → have_lots lots ps ≡ true → IsApart (rows lots ps) → are_joined None ps ≡ true
  back [] have apart = refl
  back (p ∷ []) have apart = refl
  back (p ∷ q ∷ qs) have apart =
      let mine = and_parts (has_key lot_key lots (pos p.lot)) (have_lots lots (q ∷ qs)) have in
      let theirs = and_parts (has_key lot_key lots (pos q.lot)) (have_lots lots qs) mine.1 in
      let l = the_lot lots p mine.0 in
      let m = the_lot lots q theirs.0 in
      let both : IsApart (piece_of (p, l.0) ∷ piece_of (q, m.0) ∷ rows lots qs) = subst IsApart (rows_found lots p l.0 l.1 (q ∷ qs) ∙ ap (λ ps. piece_of (p, l.0) ∷ ps) (rows_found lots q m.0 m.1 qs)) apart in
      and_from (not (goes_on p q)) (are_joined (Some q) qs) (free (goes_on p q) refl l.0 m.0 l.1 m.1 both.0)
      (back (q ∷ qs) mine.1 (subst IsApart (sym (rows_found lots q m.0 m.1 qs)) both.1))
    where
      free : (b : Bool) → goes_on p q ≡ b → (l m : Lot) → IsOf lots p l → IsOf lots q m → ¬ (Follows (piece_of (p, l)) (piece_of (q, m))) → not b ≡ true
      free true on l m a c none = absurd (none (follows_on lots p q l m a c on))
      free false off l m a c none = refl

module _ (t : Tables) where
  pub apart_from : HaveOwnFields t.lots → list_all is_piece t.pieces ≡ true → have_lots t.lots t.pieces ≡ true → are_joined None t.pieces ≡ true → IsApart (rows_of t)
  unfolding rows_of
  apart_from own good have free = apart_so t.lots own t.pieces good have free

  pub apart_back : have_lots t.lots t.pieces ≡ true → IsApart (rows_of t) → are_joined None t.pieces ≡ true
  unfolding rows_of
  apart_back have apart = back t.lots t.pieces have apart
