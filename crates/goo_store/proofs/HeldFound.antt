-- A held row of an account, found in tables that keep the rules.
use Rattle.std.proofs.Common.{◌≡◌, ◌∙◌, ℕ, pos, ◌==◌, ◌&&◌, ◌||◌, Bool, true, false, cond, is_some, find, map, List, [], ◌∷◌, Option, Some, refl, sym, ap}
use Rattle.std.specs.List.{list_all, list_any}
use Rattle.std.specs.Ordering.{int_eq}
use Rattle.sqlite_keyed.specs.Keyed.{has_key}
use Rattle.sqlite_keyed.proofs.RuleLemmas.{first_of_both, second_of_both}
use Rattle.goo_types.specs.declared.piece.Piece.{Piece}
use Rattle.goo_types.specs.declared.place.Place.TheVariants.{Held, Cancelled, Expired, Withdrawn, Exported}
use Rattle.goo_spec.specs.Lots.{is_held_by}
use Rattle.goo_tables_rows.specs.Beside.{beside}
use Rattle.goo_tables_rows.specs.Rows.{Tables, Lot, lot_key}
use Rattle.goo_tables_rows.specs.declared.piece.PieceRow.{PieceRow}
use Rattle.goo_spec_tables.specs.Kept.{AreKept}
use Rattle.goo_spec_tables.specs.Places.{place_of, piece_of, rows_of}
use Rattle.goo_spec_tables.proofs.Known.{number_is}
use Rattle.goo_spec_tables.proofs.Renewing.{the_lot, rows_found}

and-true : (b : Bool) → (b && true) ≡ b
and-true true = refl
and-true false = refl

and-false : (b : Bool) → (b && false) ≡ false
and-false true = refl
and-false false = refl

-- a place is held by the account of its row where its kind is 1
place_held_by : (account kind owner act : ℕ) → ((owner == account) && (kind == 1)) ≡ is_held_by account (place_of kind owner act)
place_held_by account kind owner act = go (kind == 1) (kind == 2) (kind == 3) (kind == 4)
  where
    go : (a b c d : Bool) → ((owner == account) && a) ≡ is_held_by account (cond a (Held owner) (cond b (Cancelled owner act) (cond c (Expired owner) (cond d (Withdrawn owner act) (Exported owner act)))))
    go true b c d = and-true (owner == account)
    go false true c d = and-false (owner == account)
    go false false true d = and-false (owner == account)
    go false false false true = and-false (owner == account)
    go false false false false = and-false (owner == account)

module _ (lots : List Lot) (account : ℕ) where
  abbrev asked : PieceRow → Bool
  asked p = int_eq (pos p.account) (pos account) && int_eq (pos p.kind) (pos 1)

  asked_held : (p : PieceRow) → asked p ≡ is_held_by account (place_of p.kind p.account p.act)
  asked_held p = (λ i. number_is p.account account i && number_is p.kind 1 i) ∙ place_held_by account p.kind p.account p.act

  -- one of the rows is held where one is found, as each has its lot
  held_rows : (ps : List PieceRow) → list_all (λ p. has_key lot_key lots (pos p.lot)) ps ≡ true → is_some (find asked ps) ≡ list_any (λ (p : Piece). is_held_by account p.place) (map piece_of (beside lots ps))
  held_rows [] there = refl
  held_rows (p ∷ ps) there =
      let lot = the_lot lots p (first_of_both (has_key lot_key lots (pos p.lot)) (list_all (λ q. has_key lot_key lots (pos q.lot)) ps) there) in
      go (asked p) (is_held_by account (place_of p.kind p.account p.act)) (asked_held p) _ (held_rows ps (second_of_both (has_key lot_key lots (pos p.lot)) (list_all (λ q. has_key lot_key lots (pos q.lot)) ps) there))
      ∙ sym (ap (list_any (λ (q : Piece). is_held_by account q.place)) (rows_found lots p lot.0 lot.1 ps))
    where
      go : (a b : Bool) → a ≡ b → (rest : Bool) → is_some (find asked ps) ≡ rest → is_some (cond a (Some p) (find asked ps)) ≡ (b || rest)
      go true true same rest is = refl
      go true false same rest is = absurd cc
      go false true same rest is = absurd cc
      go false false same rest is = is

-- an account holds a certificate where a row that it holds is found
pub held_found : (t : Tables) → AreKept t → (account asked : ℕ) → asked ≡ account → (row : Option PieceRow) → row ≡ find (λ (p : PieceRow). int_eq (pos p.account) (pos asked) && int_eq (pos p.kind) (pos 1)) t.pieces
    → is_some row ≡ list_any (λ (p : Piece). is_held_by account p.place) (rows_of t)
unfolding rows_of
held_found t kept account asked same row found =
    ap is_some (found ∙ ap (λ n. find (λ (p : PieceRow). int_eq (pos p.account) (pos n) && int_eq (pos p.kind) (pos 1)) t.pieces) same) ∙ held_rows t.lots account t.pieces kept.lots_there
