-- A page of an account's rows gives the row after each of them.
use Rattle.std.proofs.Common.{◌≡◌, ◌≤◌, ◌<◌, ◌+◌, ◌&&◌, ◌||◌, ◌==◌, nat_lt, ℕ, zero, suc, pos, Bool, true, false, cond, All, IfOk, List, [], ◌∷◌, map, take, find, Option, Some, None, Ok, Err, Result, option_map, refl, sym, ap, subst, ◌∙◌, arith}
use Rattle.std.specs.Global.{Vec}
use Rattle.std.specs.List.{filter, list_all, list_any}
use Rattle.std.specs.Prelude.{is_ok}
use Rattle.std.proofs.lemmas.List.{take-map}
use Rattle.std.proofs.lemmas.List.Elements.{All-filter, All-take}
use Rattle.sqlite.specs.State.{State}
use Rattle.sqlite.specs.declared.error.Error.{Error}
use Rattle.sqlite_keyed.specs.Keyed.{get_by, has_key}
use Rattle.std.proofs.lemmas.Bool.{le-ltb, lt-ltb, ltb-true, eq-eqb}
use Rattle.sqlite_keyed.proofs.ListLemmas.{map-map}
use Rattle.sqlite_keyed.proofs.RuleLemmas.{first_of_both, second_of_both}
use Rattle.goo_types.specs.Piece.{IsRising, IsRisingFrom}
use Rattle.goo_types.specs.declared.piece.Piece.{Piece}
use Rattle.goo_spec_runs.specs.NextRun.{first_of}
use Rattle.goo_core_shelf.specs.Rows.{next_row}
use Rattle.goo_core_shelf.specs.Sought.{is_sought}
use Rattle.goo_core_shelf.specs.declared.sought.Sought.TheVariants.{Naming}
use Rattle.goo_tables_rows.specs.Beside.{beside, joined_in, pieces_beside}
use Rattle.goo_tables_rows.specs.Rows.{Tables, Lot, lot_key}
use Rattle.goo_tables_rows.specs.Stands.{Looks, Stands, defects}
use Rattle.goo_tables_rows.specs.declared.joined.JoinedRow.{JoinedRow}
use Rattle.goo_tables_rows.specs.declared.piece.PieceRow.{PieceRow}
use Rattle.goo_spec_tables.specs.Places.{piece_of, rows_of}
use Rattle.goo_spec_tables.specs.States.{state_of}
use Rattle.goo_spec_tables.proofs.Known.{number_is}
use Rattle.goo_spec_tables.proofs.Renewing.{the_lot, rows_found}
use Rattle.goo_spec_tables.proofs.RowsFound.{filtered, place_account}
use Rattle.goo_spec_tables.specs.Kept.{AreKept}
use Rattle.sqlite.specs.Effect.{Database}
use Rattle.goo_store_judge.specs.Holding.{sure}
use Rattle.goo_store_judge.specs.Moments.{tables_in, IsWell}
use Rattle.goo_store_judge.proofs.Looking.{before, so_still}
use Rattle.goo_store_plans.specs.Found.{IsEdge}
use Rattle.goo_store_pieces.specs.Ahead.{beside_in, told_in, AreAhead, IsAhead, IsPageOf, IsWholePageOf, KeepsAhead, KeepsWhole, beyond, is_beyond}
use Rattle.goo_store_pieces.specs.Found.{IsBeside}
use Rattle.goo_store_pieces.specs.NextRows.{begins_beyond}
use Rattle.goo_store_pieces.specs.Reading.{IsReadablePiece, AreReadablePieces}
use Rattle.goo_store_pieces.specs.declared.ahead.Ahead.{Ahead}
use Rattle.goo_store_pieces.specs.declared.ahead.Ahead.TheVariants.{Row, Whole}
use Rattle.goo_store_pieces.proofs.Found.{pieces_beside_lots}
use Rattle.goo_store_pieces.proofs.RowsRead.{pieces_kept, rising_left, unmapped}
use Rattle.goo_store_pieces.specs.Caching.{AreAccountsOf, HoldsCache}
use Rattle.goo_store_pieces.specs.declared.cache.Cache.{Cache}
use Rattle.goo_store_pieces.proofs.Edges.{next_behind}
use Rattle.goo_store_pieces.proofs.Caching.{opened, so_on}

-- ---- the first of what a test leaves

find_first : (test : Piece → Bool) (ps : List Piece) → find test ps ≡ first_of (filter test ps)
find_first test [] = refl
find_first test (p ∷ ps) = go (test p) (find_first test ps)
  where
    go : (b : Bool) → find test ps ≡ first_of (filter test ps) → cond b (Some p) (find test ps) ≡ first_of (cond b (p ∷ filter test ps) (filter test ps))
    go true rest = refl
    go false rest = rest

-- ---- the rows after one that begins above a number are those that begin above its last number

module _ (wants : Piece → Bool) where
  -- where all rows begin above two numbers, both leave the same
  both_below : (a b low : ℕ) (ps : List Piece) → IsRisingFrom low ps → a + 1 ≤ low → b + 1 ≤ low → filter (λ p. wants p && nat_lt a p.first) ps ≡ filter (λ p. wants p && nat_lt b p.first) ps
  both_below a b low [] rising over above = refl
  both_below a b low (p ∷ ps) rising over above = go (wants p) (both_below a b (p.last + 1) ps rising.2 (omega (arith, over, rising.0, rising.1.0)) (omega (arith, above, rising.0, rising.1.0)))
    where
      over_a : nat_lt a p.first ≡ true
      over_a = lt-ltb a p.first (omega (arith, over, rising.0))

      over_b : nat_lt b p.first ≡ true
      over_b = lt-ltb b p.first (omega (arith, above, rising.0))

      go : (w : Bool) → filter (λ q. wants q && nat_lt a q.first) ps ≡ filter (λ q. wants q && nat_lt b q.first) ps
          → cond (w && nat_lt a p.first) (p ∷ filter (λ q. wants q && nat_lt a q.first) ps) (filter (λ q. wants q && nat_lt a q.first) ps)
          ≡ cond (w && nat_lt b p.first) (p ∷ filter (λ q. wants q && nat_lt b q.first) ps) (filter (λ q. wants q && nat_lt b q.first) ps)
      go true rest = (λ i. cond (over_a i) (p ∷ rest i) (rest i)) ∙ sym (λ i. cond (over_b i) (p ∷ filter (λ q. wants q && nat_lt b q.first) ps) (filter (λ q. wants q && nat_lt b q.first) ps))
      go false rest = rest

  -- a row that begins at a number or below it is left out
  left_out : (n : ℕ) (p : Piece) (ps : List Piece) → p.first ≤ n → filter (λ q. wants q && nat_lt n q.first) (p ∷ ps) ≡ filter (λ q. wants q && nat_lt n q.first) ps
  left_out n p ps low = go (wants p)
    where
      out : nat_lt n p.first ≡ false
      out = le-ltb n p.first low

      go : (w : Bool) → cond (w && nat_lt n p.first) (p ∷ filter (λ q. wants q && nat_lt n q.first) ps) (filter (λ q. wants q && nat_lt n q.first) ps) ≡ filter (λ q. wants q && nat_lt n q.first) ps
      go true = λ i. cond (out i) (p ∷ filter (λ q. wants q && nat_lt n q.first) ps) (filter (λ q. wants q && nat_lt n q.first) ps)
      go false = refl

  -- what follows the first row above a number
  record Follows (low : ℕ) (x : Piece) (rest ps : List Piece) : Type 0 where
    above : low ≤ x.last
    later_ones : rest ≡ filter (λ p. wants p && nat_lt x.last p.first) ps
    edge : list_any (λ p. p.last == x.last) ps ≡ true

  or_true : (b : Bool) → (b || true) ≡ true
  or_true true = refl
  or_true false = refl

  follows : (after low : ℕ) (ps : List Piece) → IsRisingFrom low ps → (x : Piece) (rest : List Piece) → filter (λ p. wants p && nat_lt after p.first) ps ≡ x ∷ rest → Follows low x rest ps
  follows after low [] rising x rest is = absurd cc
  follows after low (p ∷ ps) rising x rest is = go (follows after (p.last + 1) ps rising.2 x rest) (wants p && nat_lt after p.first) refl is
    where
      here : after + 1 ≤ p.first → Follows low p (filter (λ q. wants q && nat_lt after q.first) ps) (p ∷ ps)
      here high = record {
        above = omega (arith, rising.0, rising.1.0);
        later_ones = both_below after p.last (p.last + 1) ps rising.2 (omega (arith, high, rising.1.0)) (omega arith) ∙ sym (left_out p.last p ps rising.1.0);
        edge = ap (λ b. b || list_any (λ q. q.last == p.last) ps) (eq-eqb p.last p.last refl);
      }

      there : Follows (p.last + 1) x rest ps → Follows low x rest (p ∷ ps)
      there it = record {
        above = omega (arith, rising.0, rising.1.0, it.above);
        later_ones = it.later_ones ∙ sym (left_out x.last p ps (omega (arith, rising.1.0, it.above)));
        edge = ap (λ b. (p.last == x.last) || b) it.edge ∙ or_true (p.last == x.last);
      }

      go : (filter (λ q. wants q && nat_lt after q.first) ps ≡ x ∷ rest → Follows (p.last + 1) x rest ps) → (b : Bool) → wants p && nat_lt after p.first ≡ b
          → cond b (p ∷ filter (λ q. wants q && nat_lt after q.first) ps) (filter (λ q. wants q && nat_lt after q.first) ps) ≡ x ∷ rest → Follows low x rest (p ∷ ps)
      go further true passes same =
          let first : p ≡ x = cc in
          let left : filter (λ q. wants q && nat_lt after q.first) ps ≡ rest = cc in
          subst (λ y. Follows low y rest (p ∷ ps)) first (subst (λ l. Follows low p l (p ∷ ps)) left (here (omega (arith, ltb-true after p.first (second_of_both (wants p) (nat_lt after p.first) passes)))))
      go further false fails same = there (further same)

-- ---- along a page

-- what is left of a page tells the account's next rows after a number at which a row ends
pub record IsLeftOf (t : Tables) (account after n : ℕ) (left : List Ahead) : Type 0 where
  pub rising : IsRising (rows_of t)
  pub edge : list_any (λ p. p.last == after) (rows_of t) ≡ true
  pub shown : map (told_in t.lots) left ≡ map Some (take n (filter (beyond account after) (rows_of t)))

-- where a row ends, as it is kept
abbrev pub end_of : Ahead → ℕ
end_of (Row p) = p.last
end_of (Whole p) = p.last

next_first : (account after : ℕ) (rows : List Piece) → IsRising rows → list_any (λ p. p.last == after) rows ≡ true → next_row account (Some after) rows ≡ first_of (filter (beyond account after) rows)
next_first account after rows rising edge = next_behind (is_sought (Naming account)) (Some after) after refl rows rising edge ∙ find_first (beyond account after) rows

-- the piece ends where its row ends
same_end : (lots : List Lot) (row : Ahead) (p : Piece) → told_in lots row ≡ Some p → p.last ≡ end_of row
same_end lots (Row q) p is = go (get_by lot_key lots (pos q.lot)) is
  where
    go : (o : Option Lot) → option_map (λ l. piece_of (q, l)) o ≡ Some p → p.last ≡ q.last
    go None is = absurd cc
    go (Some l) is = let same : piece_of (q, l) ≡ p = cc in sym (ap (λ (x : Piece). x.last) same)
same_end lots (Whole q) p is = let same : q ≡ p = cc in sym (ap (λ (x : Piece). x.last) same)

-- the first row that is left comes next, and the others are left after it
pub record Goes (t : Tables) (account after n : ℕ) (row : Ahead) (left : List Ahead) : Type 0 where
  pub next : IsAhead t account after (Some row)
  pub fewer : ℕ
  pub counts : n ≡ fewer + 1
  pub others : IsLeftOf t account (end_of row) fewer left

pub goes : (t : Tables) (account after n : ℕ) (row : Ahead) (left : List Ahead) → IsLeftOf t account after n (row ∷ left) → Goes t account after n row left
goes t account after n row left it = go n (filter (beyond account after) (rows_of t)) refl it.shown
  where
    go : (m : ℕ) (all : List Piece) → filter (beyond account after) (rows_of t) ≡ all → told_in t.lots row ∷ map (told_in t.lots) left ≡ map Some (take m all) → Goes t account after m row left
    go zero all is page = absurd cc
    go (suc m) [] is page = absurd cc
    go (suc m) (y ∷ ys) is page =
        let first : told_in t.lots row ≡ Some y = cc in
        let rest : map (told_in t.lots) left ≡ map Some (take m ys) = cc in
        let at : y.last ≡ end_of row = same_end t.lots row y first in
        let it_follows = follows (is_sought (Naming account)) after 0 (rows_of t) it.rising y ys is in record {
          next = record { edge = it.edge; next = next_first account after (rows_of t) it.rising it.edge ∙ ap first_of is ∙ sym first };
          fewer = m;
          counts = omega arith;
          others = subst (λ e. IsLeftOf t account e m left) at (record { rising = it.rising; edge = it_follows.edge; shown = rest ∙ ap (λ ps. map Some (take m ps)) it_follows.later_ones });
        }

-- where a page could have had more rows, none comes next
pub ends : (t : Tables) (account after n : ℕ) → 0 < n → IsLeftOf t account after n [] → IsAhead t account after None
ends t account after n more it = record { edge = it.edge; next = go n (filter (beyond account after) (rows_of t)) refl more it.shown }
  where
    go : (m : ℕ) (all : List Piece) → filter (beyond account after) (rows_of t) ≡ all → 0 < m → [] ≡ map Some (take m all) → next_row account (Some after) (rows_of t) ≡ None
    go zero all is none page = absurd (omega (arith, none))
    go (suc m) [] is some page = next_first account after (rows_of t) it.rising it.edge ∙ ap first_of is
    go (suc m) (y ∷ ys) is some page = absurd cc

-- ---- the page that the statement shows

module _ (lots : List Lot) (account after : ℕ) where
  asked_beyond : (p : PieceRow) (l : Lot) → is_beyond account after p ≡ beyond account after (piece_of (p, l))
  asked_beyond p l = λ i. (number_is p.account account ∙ sym (ap (λ n. n == account) (place_account p.kind p.account p.act))) i && nat_lt after p.first

  -- the rows that are asked for, each beside its lot, as all of them have theirs
  all_beside : (ps : List PieceRow) → list_all (λ p. has_key lot_key lots (pos p.lot)) ps ≡ true → map (beside_in lots) (filter (is_beyond account after) ps) ≡ map Some (filter (beyond account after) (map piece_of (beside lots ps)))
  all_beside [] there = refl
  all_beside (p ∷ ps) there =
      let lot = the_lot lots p (first_of_both (has_key lot_key lots (pos p.lot)) (list_all (λ q. has_key lot_key lots (pos q.lot)) ps) there) in
      go lot.0 lot.1 (is_beyond account after p) (beyond account after (piece_of (p, lot.0))) (asked_beyond p lot.0) (all_beside ps (second_of_both (has_key lot_key lots (pos p.lot)) (list_all (λ q. has_key lot_key lots (pos q.lot)) ps) there))
      ∙ sym (ap (λ qs. map Some (filter (beyond account after) qs)) (rows_found lots p lot.0 lot.1 ps))
    where
      rest : List Piece
      rest = map piece_of (beside lots ps)

      go : (l : Lot) → get_by lot_key lots (pos p.lot) ≡ Some l → (a b : Bool) → a ≡ b → map (beside_in lots) (filter (is_beyond account after) ps) ≡ map Some (filter (beyond account after) rest)
          → map (beside_in lots) (cond a (p ∷ filter (is_beyond account after) ps) (filter (is_beyond account after) ps)) ≡ map Some (cond b (piece_of (p, l) ∷ filter (beyond account after) rest) (filter (beyond account after) rest))
      go l is true true same others = λ i. option_map (λ m. piece_of (p, m)) (is i) ∷ others i
      go l is true false same others = absurd cc
      go l is false true same others = absurd cc
      go l is false false same others = others

pub page_left : (t : Tables) (account after : ℕ) (page : List PieceRow) → IsPageOf t account after page → IsLeftOf t account after 256 (map Row page)
unfolding rows_of
page_left t account after page it = record {
  rising = it.kept.rising;
  edge = it.edge;
  shown =
      map-map (told_in t.lots) Row page
      ∙ ap (map (beside_in t.lots)) it.shown ∙ sym (take-map (beside_in t.lots) 256 (filter (is_beyond account after) t.pieces))
      ∙ ap (take 256) (all_beside t.lots account after t.pieces it.kept.lots_there)
      ∙ take-map Some 256 (filter (beyond account after) (rows_of t));
}

pub whole_left : (t : Tables) (account after : ℕ) (page : List Piece) → IsWholePageOf t account after page → IsLeftOf t account after 256 (map Whole page)
whole_left t account after page it = record { rising = it.rising; edge = it.edge; shown = map-map (told_in t.lots) Whole page ∙ ap (map Some) it.shown }

module _ (account after : ℕ) where
  -- what is kept after a page was read is so
  pub lasts_with_page : (old new : State) (it : IsWell old) (r : Result (Vec PieceRow) Error) → (looks : Looks old new r (λ t found. found.items ≡ take 256 (filter (is_beyond account after) t.pieces)))
      → (defects old ≡ 0 → IsEdge (Some after) (rows_of (tables_in old))) → (first last : Cache) → last.answered ≡ is_ok r → last.accounts ≡ first.accounts
      → KeepsAhead r account after first.ahead.items last.ahead.items → HoldsCache old first → HoldsCache new last
  lasts_with_page old new it r looks edge first last answered accounts keeps cached = record {
    so = λ none.
        let early = before old new it r _ looks none in
        let still = so_on old new it r _ looks first cached none in record {
          accounts = subst (λ xs. AreAccountsOf (state_of (tables_in new)) xs.items) (sym accounts) still.accounts;
          ahead = so_still old new it r _ looks (λ t. AreAhead t last.ahead.items) none (go early r (looks.found (sure new none).0 (tables_in old) (it.stands early)) keeps);
        };
    is_open = opened new r last.answered answered looks.works;
  }
    where
      go : defects old ≡ 0 → (q : Result (Vec PieceRow) Error) → IfOk q (λ found. found.items ≡ take 256 (filter (is_beyond account after) (tables_in old).pieces)) → KeepsAhead q account after first.ahead.items last.ahead.items
          → AreAhead (tables_in old) last.ahead.items
      go early (Ok x) found keep = keep (tables_in old) (cached.so early).ahead (record { kept = it.kept early; edge = edge early; shown = found })
      go early (Err e) found keep = subst (AreAhead (tables_in old)) (sym keep) (cached.so early).ahead

-- ---- a page of rows beside their lots

-- as the statement tests it
abbrev asked : ℕ → ℕ → PieceRow × Lot → Bool
asked account after = begins_beyond (Naming account) after

rising_taken : (n low : ℕ) (ps : List Piece) → IsRisingFrom low ps → IsRisingFrom low (take n ps)
rising_taken zero low ps rising = tt
rising_taken (suc n) low [] rising = tt
rising_taken (suc n) low (p ∷ ps) rising = (rising.0, rising.1, rising_taken n (p.last + 1) ps rising.2)

module _ (account after : ℕ) where
  page_shown : (t : Tables) (rows : List JoinedRow) → map joined_in rows ≡ take 256 (filter (asked account after) (pieces_beside t)) → map piece_of (map joined_in rows) ≡ take 256 (filter (beyond account after) (rows_of t))
  unfolding rows_of
  page_shown t rows is =
      let all = filter (asked account after) (pieces_beside t) in
      ap (map piece_of) is ∙ sym (take-map piece_of 256 all)
      ∙ ap (take 256)
      (filtered (asked account after) (beyond account after) (λ a. λ i. (number_is a.0.account account ∙ sym (ap (λ n. n == account) (place_account a.0.kind a.0.account a.0.act))) i && nat_lt after a.0.first)
      (pieces_beside t) all (map piece_of all) refl refl)

  pub page_readable : (db : Database) (t : Tables) → Stands db t → AreKept t → (rows : List JoinedRow) → map joined_in rows ≡ take 256 (filter (asked account after) (pieces_beside t)) → AreReadablePieces rows
  unfolding rows_of
  page_readable db t stands kept rows is =
      let all = filter (asked account after) (pieces_beside t) in record {
        each = unmapped IsReadablePiece joined_in rows (subst (All IsReadablePiece) (sym is) (All-take IsReadablePiece 256 all (All-filter (asked account after) IsReadablePiece (pieces_beside t) (pieces_kept db t stands kept))));
        rising = subst IsRising (sym (ap (map piece_of) is ∙ sym (take-map piece_of 256 all))) (rising_taken 256 0 (map piece_of all) (rising_left piece_of (asked account after) 0 (pieces_beside t) kept.rising));
      }

  pub page_beside : (t : Tables) (rows : List JoinedRow) → map joined_in rows ≡ take 256 (filter (asked account after) (pieces_beside t)) → All (λ r. IsBeside t.lots (joined_in r)) rows
  page_beside t rows is =
      let all = filter (asked account after) (pieces_beside t) in
      unmapped (IsBeside t.lots) joined_in rows (subst (All (IsBeside t.lots)) (sym is) (All-take (IsBeside t.lots) 256 all (All-filter (asked account after) (IsBeside t.lots) (pieces_beside t) (pieces_beside_lots t))))

  -- what is kept after a page was read is so
  pub lasts_with_pieces : (old new : State) (it : IsWell old) (r : Result (Vec JoinedRow) Error) → (looks : Looks old new r (λ t found. map joined_in found.items ≡ take 256 (filter (asked account after) (pieces_beside t))))
      → (defects old ≡ 0 → IsEdge (Some after) (rows_of (tables_in old))) → (first last : Cache) → last.answered ≡ is_ok r → last.accounts ≡ first.accounts
      → KeepsWhole r account after first.ahead.items last.ahead.items → HoldsCache old first → HoldsCache new last
  lasts_with_pieces old new it r looks edge first last answered accounts keeps cached = record {
    so = λ none.
        let early = before old new it r _ looks none in
        let still = so_on old new it r _ looks first cached none in record {
          accounts = subst (λ xs. AreAccountsOf (state_of (tables_in new)) xs.items) (sym accounts) still.accounts;
          ahead = so_still old new it r _ looks (λ t. AreAhead t last.ahead.items) none (go early r (looks.found (sure new none).0 (tables_in old) (it.stands early)) keeps);
        };
    is_open = opened new r last.answered answered looks.works;
  }
    where
      go : defects old ≡ 0 → (q : Result (Vec JoinedRow) Error) → IfOk q (λ found. map joined_in found.items ≡ take 256 (filter (asked account after) (pieces_beside (tables_in old)))) → KeepsWhole q account after first.ahead.items last.ahead.items
          → AreAhead (tables_in old) last.ahead.items
      go early (Ok x) found keep = keep (tables_in old) (cached.so early).ahead (record { rising = (it.kept early).rising; edge = edge early; shown = page_shown (tables_in old) x.items found })
      go early (Err e) found keep = subst (AreAhead (tables_in old)) (sym keep) (cached.so early).ahead
