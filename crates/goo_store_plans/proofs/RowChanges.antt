-- Pieces that are taken out and put in, seen as rows of certificates.
use Rattle.std.proofs.Common.{◌≡◌, ℕ, zero, suc, ◌+◌, ◌≤◌, ◌<◌, pos, ◌==◌, List, [], ◌∷◌, Bool, true, false, not, cond, map, find, is_some, nat_lt, Option, Some, None, option_map, refl, ap, sym, subst, ◌∙◌, true≢false, arith}
use Rattle.std.specs.declared.cmp.Ordering.{Ordering}
use Rattle.std.specs.declared.cmp.Ordering.TheVariants.{Less, Equal, Greater}
use Rattle.std.specs.List.{list_all, cons_option}
use Rattle.std.specs.Ordering.{int_eq, int_cmp, is_eq, match_ordering, ordering_reverse}
use Rattle.std.specs.Cmp.{int_cmp_total}
use Rattle.jiff_core.proofs.SignedLemmas.{signed_arith}
use Rattle.std.proofs.lemmas.Bool.{lt-ltb, le-ltb, eqb-true, eq-eqb}
use Rattle.sqlite_keyed.specs.Keyed.{insert_by, has_key, get_by, IsKeyedBy}
use Rattle.sqlite_keyed.specs.Lists.{delete_where}
use Rattle.sqlite_keyed.proofs.KeyedLemmas.{lt_from_Less, same_int, none_past}
use Rattle.sqlite_keyed.proofs.RuleLemmas.{first_of_both, second_of_both}
use Rattle.goo_types.specs.declared.piece.Piece.{Piece}
use Rattle.goo_types.specs.Piece.{IsRisingFrom}
use Rattle.goo_ranges_rows.specs.Rows.{with, with_each, without}
use Rattle.goo_tables_rows.specs.Beside.{beside}
use Rattle.goo_tables_rows.specs.Rows.{Lot, lot_key, piece_key}
use Rattle.goo_tables_rows.specs.declared.piece.PieceRow.{PieceRow}
use Rattle.goo_spec_tables.specs.Places.{piece_of}
use Rattle.goo_spec_tables.proofs.Inserted.{here_too}
use Rattle.goo_spec_tables.proofs.Known.{number_is}

-- ---- how many rows begin at a number

abbrev pub begins_at : ℕ → List Piece → ℕ
begins_at f [] = 0
begins_at f (p ∷ ps) = cond (p.first == f) 1 0 + begins_at f ps

begins_after : (f low : ℕ) (ps : List Piece) → IsRisingFrom low ps → f < low → begins_at f ps ≡ 0
begins_after f low [] rising below = refl
begins_after f low (p ∷ ps) rising below =
    let rest = begins_after f (p.last + 1) ps rising.2 (omega (arith, below, rising.0, rising.1.0)) in
    go (p.first == f) (λ is. let same = eqb-true p.first f is in omega (arith, same, below, rising.0)) rest
  where
    go : (b : Bool) → (b ≡ true → ⊥) → begins_at f ps ≡ 0 → cond b 1 0 + begins_at f ps ≡ 0
    go true never rest = absurd (never refl)
    go false never rest = omega (arith, rest)

-- rows that rise begin at different numbers
begins_once : (f low : ℕ) (ps : List Piece) → IsRisingFrom low ps → begins_at f ps ≤ 1
begins_once f low [] rising = omega arith
begins_once f low (p ∷ ps) rising = go (p.first == f) (λ is. let same = eqb-true p.first f is in begins_after f (p.last + 1) ps rising.2 (omega (arith, same, rising.1.0))) (begins_once f (p.last + 1) ps rising.2)
  where
    go : (b : Bool) → (b ≡ true → begins_at f ps ≡ 0) → begins_at f ps ≤ 1 → cond b 1 0 + begins_at f ps ≤ 1
    go true here rest = omega (arith, here refl)
    go false here rest = omega (arith, rest)

begins-with : (f : ℕ) (p : Piece) (rows : List Piece) → begins_at f (with p rows) ≡ cond (p.first == f) 1 0 + begins_at f rows
begins-with f p [] = refl
begins-with f p (q ∷ qs) = go (nat_lt p.first q.first) (begins-with f p qs)
  where
    go : (b : Bool) → begins_at f (with p qs) ≡ cond (p.first == f) 1 0 + begins_at f qs → begins_at f (cond b (p ∷ q ∷ qs) (q ∷ with p qs)) ≡ cond (p.first == f) 1 0 + begins_at f (q ∷ qs)
    go true rest = refl
    go false rest = omega (arith, rest)

begins-with_each : (f : ℕ) (ps rows : List Piece) → begins_at f rows ≤ begins_at f (with_each ps rows)
begins-with_each f [] rows = omega arith
begins-with_each f (p ∷ ps) rows = omega (arith, begins-with_each f ps (with p rows), begins-with f p rows)

-- a row that is put in where all rise in the end is the first that begins there
pub new_row : (p : Piece) (ps rows : List Piece) → IsRisingFrom 0 (with_each ps (with p rows)) → begins_at p.first rows ≡ 0
new_row p ps rows rising =
    let here : ℕ = cond (p.first == p.first) 1 0 in
    let one : here ≡ suc zero = ap (λ b. cond b 1 0) (eq-eqb p.first p.first refl) in
    omega (arith, begins_once p.first 0 (with_each ps (with p rows)) rising, begins-with_each p.first ps (with p rows), begins-with p.first p rows, one)

below : (a b : ℕ) → int_cmp (pos a) (pos b) ≡ Less → a < b
below a b is = let far = lt_from_Less (pos a) (pos b) is in omega (arith, signed_arith, far)

-- ---- the rows of pieces, each of which has its lot

module _ (lots : List Lot) where
  abbrev pub rows_for : List PieceRow → List Piece
  rows_for ps = map piece_of (beside lots ps)

  abbrev pub HaveLots : List PieceRow → Type 0
  HaveLots ps = list_all (λ p. has_key lot_key lots (pos p.lot)) ps ≡ true

  -- a piece with its lot is a row
  row_first : (p : PieceRow) (ps : List PieceRow) → has_key lot_key lots (pos p.lot) ≡ true → (l : Lot) × (get_by lot_key lots (pos p.lot) ≡ Some l) × (rows_for (p ∷ ps) ≡ piece_of (p, l) ∷ rows_for ps)
  row_first p ps has = go (get_by lot_key lots (pos p.lot)) refl has
    where
      go : (o : Option Lot) → get_by lot_key lots (pos p.lot) ≡ o → is_some o ≡ true → (l : Lot) × (get_by lot_key lots (pos p.lot) ≡ Some l) × (rows_for (p ∷ ps) ≡ piece_of (p, l) ∷ rows_for ps)
      go None is there = absurd (true≢false (sym there))
      go (Some l) is there = (l, is, ap (λ o. map piece_of (cons_option (option_map (λ m. (p, m)) o) (beside lots ps))) is)

  row_at : (p : PieceRow) (ps : List PieceRow) (l : Lot) → get_by lot_key lots (pos p.lot) ≡ Some l → rows_for (p ∷ ps) ≡ piece_of (p, l) ∷ rows_for ps
  row_at p ps l is = ap (λ o. map piece_of (cons_option (option_map (λ m. (p, m)) o) (beside lots ps))) is

  -- a piece more is a row more, in its place
  pub row_inserted : (x : PieceRow) (l : Lot) → get_by lot_key lots (pos x.lot) ≡ Some l → (ps : List PieceRow) → HaveLots ps → has_key piece_key ps (piece_key x) ≡ false
      → rows_for (insert_by piece_key ps x) ≡ with (piece_of (x, l)) (rows_for ps)
  row_inserted x l is [] have fresh = row_at x [] l is
  row_inserted x l is (p ∷ ps) have fresh =
      let parts = here_too (int_eq (piece_key p) (piece_key x)) p (find (λ a. int_eq (piece_key a) (piece_key x)) ps) fresh in
      let first = row_first p ps (first_of_both _ (list_all (λ a. has_key lot_key lots (pos a.lot)) ps) have) in
      go (int_cmp (piece_key p) (piece_key x)) refl parts.0 first.0 first.1 first.2 (row_inserted x l is ps (second_of_both (has_key lot_key lots (pos p.lot)) _ have) parts.1)
    where
      go : (r : Ordering) → int_cmp (piece_key p) (piece_key x) ≡ r → is_eq r ≡ false → (m : Lot) → get_by lot_key lots (pos p.lot) ≡ Some m → rows_for (p ∷ ps) ≡ piece_of (p, m) ∷ rows_for ps
          → rows_for (insert_by piece_key ps x) ≡ with (piece_of (x, l)) (rows_for ps)
          → rows_for (match_ordering r (p ∷ insert_by piece_key ps x) (x ∷ ps) (x ∷ p ∷ ps)) ≡ with (piece_of (x, l)) (rows_for (p ∷ ps))
      go Less less not_eq m there first rest =
          row_at p (insert_by piece_key ps x) m there ∙ ap (λ rows. piece_of (p, m) ∷ rows) rest
          ∙ sym (ap (λ b. cond b (piece_of (x, l) ∷ piece_of (p, m) ∷ rows_for ps) (piece_of (p, m) ∷ with (piece_of (x, l)) (rows_for ps))) (le-ltb x.first p.first (omega (arith, below p.first x.first less))))
          ∙ sym (ap (with (piece_of (x, l))) first)
      go Equal equal not_eq m there first rest = absurd (true≢false not_eq)
      go Greater greater not_eq m there first rest =
          row_at x (p ∷ ps) l is ∙ ap (λ rows. piece_of (x, l) ∷ rows) first
          ∙ sym (ap (λ b. cond b (piece_of (x, l) ∷ piece_of (p, m) ∷ rows_for ps) (piece_of (p, m) ∷ with (piece_of (x, l)) (rows_for ps))) (lt-ltb x.first p.first (below x.first p.first (int_cmp_total.antisymm (pos x.first) (pos p.first) ∙ ap ordering_reverse greater))))
          ∙ sym (ap (with (piece_of (x, l))) first)

  -- a piece that is taken out takes its row away
  others_stay : (k : ℕ) (ps : List PieceRow) → has_key piece_key ps (pos k) ≡ false → delete_where (λ p. int_eq (piece_key p) (pos k)) ps ≡ ps
  others_stay k [] fresh = refl
  others_stay k (p ∷ ps) fresh =
      let parts = here_too (int_eq (piece_key p) (pos k)) p (find (λ a. int_eq (piece_key a) (pos k)) ps) fresh in
      (λ i. cond (not (parts.0 i)) (p ∷ others_stay k ps parts.1 i) (others_stay k ps parts.1 i))

  pub row_removed : (k : ℕ) (ps : List PieceRow) → HaveLots ps → IsKeyedBy piece_key ps → rows_for (delete_where (λ p. int_eq (piece_key p) (pos k)) ps) ≡ without k (rows_for ps)
  row_removed k [] have rise = refl
  row_removed k (p ∷ ps) have rise =
      let first = row_first p ps (first_of_both _ (list_all (λ a. has_key lot_key lots (pos a.lot)) ps) have) in
      go (int_eq (piece_key p) (pos k)) refl first.0 first.1 first.2 (row_removed k ps (second_of_both (has_key lot_key lots (pos p.lot)) _ have) rise.1)
    where
      go : (b : Bool) → int_eq (piece_key p) (pos k) ≡ b → (m : Lot) → get_by lot_key lots (pos p.lot) ≡ Some m → rows_for (p ∷ ps) ≡ piece_of (p, m) ∷ rows_for ps
          → rows_for (delete_where (λ q. int_eq (piece_key q) (pos k)) ps) ≡ without k (rows_for ps)
          → rows_for (cond (not b) (p ∷ delete_where (λ q. int_eq (piece_key q) (pos k)) ps) (delete_where (λ q. int_eq (piece_key q) (pos k)) ps)) ≡ without k (rows_for (p ∷ ps))
      go false other m there first rest =
          row_at p (delete_where (λ q. int_eq (piece_key q) (pos k)) ps) m there ∙ ap (λ rows. piece_of (p, m) ∷ rows) rest
          ∙ sym (ap (λ b. cond b (rows_for ps) (piece_of (p, m) ∷ without k (rows_for ps))) (sym (number_is p.first k) ∙ other))
          ∙ sym (ap (without k) first)
      go true here m there first rest = ap rows_for (others_stay k ps (ap is_some (subst (λ id. get_by piece_key ps id ≡ None) (same_int (piece_key p) (pos k) here) (none_past piece_key ps (piece_key p) rise.0)))) ∙ sym (ap (λ b. cond b (rows_for ps) (piece_of (p, m) ∷ without k (rows_for ps))) (sym (number_is p.first k) ∙ here)) ∙ sym (ap (without k) first)

  -- how often a row begins at a number says whether a piece has that number
  pub number_free : (f : ℕ) (ps : List PieceRow) → HaveLots ps → begins_at f (rows_for ps) ≡ 0 → has_key piece_key ps (pos f) ≡ false
  number_free f [] have none = refl
  number_free f (p ∷ ps) have none =
      let first = row_first p ps (first_of_both _ (list_all (λ a. has_key lot_key lots (pos a.lot)) ps) have) in
      let split : cond (p.first == f) 1 0 + begins_at f (rows_for ps) ≡ 0 = sym (ap (begins_at f) first.2) ∙ none in
      go (p.first == f) refl split (λ rest. number_free f ps (second_of_both (has_key lot_key lots (pos p.lot)) _ have) rest)
    where
      go : (b : Bool) → (p.first == f) ≡ b → cond b 1 0 + begins_at f (rows_for ps) ≡ 0 → (begins_at f (rows_for ps) ≡ 0 → has_key piece_key ps (pos f) ≡ false) → has_key piece_key (p ∷ ps) (pos f) ≡ false
      go true here split rest = absurd (omega (arith, split))
      go false other split rest = (λ i. is_some (cond ((number_is p.first f ∙ other) i) (Some p) (find (λ a. int_eq (piece_key a) (pos f)) ps))) ∙ rest (omega (arith, split))
