-- The next row that is asked for, found in tables that keep the rules.
use Rattle.std.proofs.Common.{◌≡◌, ◌≤◌, ◌+◌, ◌&&◌, ◌==◌, nat_le, nat_lt, ℕ, zero, suc, Bool, true, false, cond, IfSome, IsSomeAnd, IfOk, IsErr, Ok, Err, Result, List, [], ◌∷◌, map, find, reverse, All, Option, Some, None, option_map, refl, sym, ap, subst, ◌∙◌, true≢false, arith}
use Rattle.std.specs.List.{filter}
use Rattle.std.specs.Option.{option_or}
use Rattle.std.proofs.lemmas.Bool.{ltb-true}
use Rattle.std.proofs.lemmas.Iterator.Adapters.{option_map_id}
use Rattle.std.proofs.lemmas.List.Elements.{All-nil, All-cons, All-head}
use Rattle.std.proofs.lemmas.List.Sorted.{All-permutation, IsPermutation-reverse}
use Rattle.sqlite.specs.Effect.{Database}
use Rattle.sqlite_keyed.proofs.RuleLemmas.{first_of_both, second_of_both}
use Rattle.goo_types.specs.Number.{IsNumber, is_number, code_of}
use Rattle.goo_types.proofs.NumberLemmas.{is_number-holds}
use Rattle.goo_types.specs.Piece.{IsForward, IsRisingFrom, IsRising}
use Rattle.goo_types.specs.declared.piece.Piece.{Piece}
use Rattle.goo_spec_runs.specs.NextRun.{ending_from, first_of, from_of}
use Rattle.goo_core_shelf.specs.Rows.{EndsFrom}
use Rattle.goo_tables_rows.specs.Beside.{pieces_beside, joined_in}
use Rattle.goo_tables_rows.specs.Rows.{Tables, Lot}
use Rattle.goo_tables_rows.specs.Stands.{Looks, Stands, defects}
use Rattle.goo_tables_rows.specs.declared.joined.JoinedRow.{JoinedRow}
use Rattle.goo_tables_rows.specs.declared.piece.PieceRow.{PieceRow}
use Rattle.goo_spec_tables.specs.Kept.{AreKept}
use Rattle.goo_spec_tables.specs.Places.{piece_of, rows_of}
use Rattle.goo_spec_tables.specs.Readable.{are_ends, is_act, names_act, is_piece}
use Rattle.goo_spec_tables.proofs.Expiring.{expiring_found}
use Rattle.goo_spec_tables.proofs.Known.{number_is}
use Rattle.goo_spec_tables.proofs.RowsFound.{next_found as found_in, place_account}
use Rattle.goo_store_values.proofs.RowsRead.{found_row}
use Rattle.goo_store_pieces.specs.Reading.{IsReadablePiece}
use Rattle.goo_core_shelf.specs.Sought.{is_sought}
use Rattle.goo_core_shelf.specs.declared.sought.Sought.{Sought}
use Rattle.goo_core_shelf.specs.declared.sought.Sought.TheVariants.{Naming, Expiring}
use Rattle.goo_store_pieces.specs.NextRows.{begins_beyond, IsDated, reaching_beyond}
use Rattle.goo_store_pieces.proofs.Next.{first_beyond, next_found}
use Rattle.goo_store_pieces.proofs.RowsRead.{pieces_kept}
use Rattle.goo_store_pieces.proofs.Edges.{edge_found}
use Rattle.goo_store_judge.proofs.Looking.{before, so_still}
use Rattle.goo_store_judge.specs.Holding.{sure}
use Rattle.goo_store_judge.specs.Moments.{tables_in, IsWell}
use Rattle.goo_store_plans.specs.Found.{IsEdge}
use Rattle.goo_store_values.specs.Passing.{Passes}
use Rattle.goo_store_values.specs.declared.statement_fault.StatementFault.{StatementFault}
use Rattle.sqlite.specs.State.{State}
use Rattle.sqlite.specs.declared.error.Error.{Error}
use Rattle.std.specs.Prelude.{IsOkAnd}

-- ---- rising rows

all_forward : (low : ℕ) (ps : List Piece) → IsRisingFrom low ps → All IsForward ps
all_forward low [] rising = All-nil IsForward
all_forward low (p ∷ ps) rising = All-cons IsForward p ps rising.1 (all_forward (p.last + 1) ps rising.2)

-- the row before is forward, as all are
pub before_forward : (ps : List Piece) → IsRising ps → (test : Piece → Bool) (before : Option Piece) → before ≡ find test (reverse ps) → IfSome before IsForward
before_forward ps rising test before is =
    subst (λ o. IfSome o IsForward) (sym is) (found test (reverse ps) (All-permutation IsForward ps (reverse ps) (IsPermutation-reverse ps) (all_forward 0 ps rising)))
  where
    found : (q : Piece → Bool) (xs : List Piece) → All IsForward xs → IfSome (find q xs) IsForward
    found q xs all = found_row (λ p. p) IsForward q xs all (find q xs) (option_map_id (find q xs))

-- a row that begins above a number ends above it too
pub found_ends : (wanted : Piece → Bool) (after low : ℕ) (ps : List Piece) → IsRisingFrom low ps → IfSome (find (λ p. wanted p && nat_lt after p.first) ps) (EndsFrom (after + 1))
found_ends wanted after low [] rising = tt
found_ends wanted after low (p ∷ ps) rising = go (wanted p && nat_lt after p.first) refl (found_ends wanted after (p.last + 1) ps rising.2)
  where
    go : (b : Bool) → wanted p && nat_lt after p.first ≡ b → IfSome (find (λ q. wanted q && nat_lt after q.first) ps) (EndsFrom (after + 1))
        → IfSome (cond b (Some p) (find (λ q. wanted q && nat_lt after q.first) ps)) (EndsFrom (after + 1))
    go true is rest = (omega (arith, ltb-true after p.first (second_of_both (wanted p) (nat_lt after p.first) is), rising.1.0), rising.1)
    go false is rest = rest

-- the next row after the number that was asked about, whether the one before reaches above it or not
module _ (wanted : Piece → Bool) (asked : Option ℕ) (after : ℕ) (named : asked ≡ Some after) (ps : List Piece) (rising : IsRising ps) (before : Option Piece) (is : before ≡ find (λ p. nat_lt p.first (after + 1)) (reverse ps)) where
  in_turn : (o : Option Piece) → o ≡ reaching_beyond wanted after before
      → first_of (ending_from (from_of asked) (filter wanted ps)) ≡ option_or o (find (λ p. wanted p && nat_lt after p.first) ps)
  in_turn o reaches =
      ap (λ a. first_of (ending_from (from_of a) (filter wanted ps))) named ∙ next_found wanted after 0 ps rising
      ∙ sym (λ i. option_or ((reaches ∙ ap (reaching_beyond wanted after) is) i) (find (λ p. wanted p && nat_lt after p.first) ps))

  pub next_before : (o : Option Piece) (row : Piece) → o ≡ Some row → o ≡ reaching_beyond wanted after before → Some row ≡ first_of (ending_from (from_of asked) (filter wanted ps))
  next_before o row same reaches = sym (in_turn (Some row) (sym same ∙ reaches))

  pub next_later : (o row : Option Piece) → o ≡ None → o ≡ reaching_beyond wanted after before → row ≡ find (λ p. wanted p && nat_lt after p.first) ps → row ≡ first_of (ending_from (from_of asked) (filter wanted ps))
  next_later o row same reaches found = found ∙ sym (in_turn None (sym same ∙ reaches))

-- ---- the rows of tables that keep the rules

one_up : (p : PieceRow) → is_piece p ≡ true → 1 ≤ p.first
one_up p good =
    positive p.first (is_number-holds p.first (first_of_both (is_number p.first) (is_number p.last && (nat_le p.first p.last && (code_of p.first == code_of p.last))) (first_of_both (are_ends p.first p.last) (is_act p.account && names_act p.kind p.act) good)))
  where
    positive : (n : ℕ) → IsNumber n → 1 ≤ n
    positive zero is = absurd (omega (arith, is.0.0))
    positive (suc n) is = omega arith

from_one : (xs : List (PieceRow × Lot)) → All IsReadablePiece xs → IsRising (map piece_of xs) → IsRisingFrom 1 (map piece_of xs)
from_one [] all rising = tt
from_one (x ∷ xs) all rising = (one_up x.0 (All-head IsReadablePiece x xs all).values, rising.1, rising.2)

module _ (t : Tables) (kept : AreKept t) where
  -- the row that the statement finds
  pub beyond_found : (sought : Sought) → IsDated sought → (after : ℕ) (found : Option (PieceRow × Lot)) (row : Option Piece)
      → found ≡ find (begins_beyond sought after) (pieces_beside t) → row ≡ option_map piece_of found → row ≡ find (λ p. is_sought sought p && nat_lt after p.first) (rows_of t)
  unfolding rows_of
  beyond_found (Naming account) dated after found row is read =
      found_in (begins_beyond (Naming account) after) (λ p. is_sought (Naming account) p && nat_lt after p.first)
      (λ a. λ i. (number_is a.0.account account ∙ sym (ap (λ n. n == account) (place_account a.0.kind a.0.account a.0.act))) i && nat_lt after a.0.first)
      (pieces_beside t) found row is read
  beyond_found (Expiring day) dated after found row is read = expiring_found t kept day dated after found row is read

  -- it can be read, and ends above the number
  pub beyond_read : (db : Database) → Stands db t → (sought : Sought) → IsDated sought → (after : ℕ) (row : Option JoinedRow) → option_map joined_in row ≡ find (begins_beyond sought after) (pieces_beside t)
      → IfSome row (λ r. IsReadablePiece (joined_in r)) × IfSome (option_map piece_of (option_map joined_in row)) (EndsFrom (after + 1))
  unfolding rows_of
  beyond_read db stands sought dated after row is = (
    found_row joined_in IsReadablePiece (begins_beyond sought after) (pieces_beside t) (pieces_kept db t stands kept) row is,
    subst (λ o. IfSome o (EndsFrom (after + 1))) (sym (beyond_found sought dated after (option_map joined_in row) (option_map piece_of (option_map joined_in row)) is refl)) (found_ends (is_sought sought) after 0 (rows_of t) kept.rising),
  )

  -- where no number was asked about, all rows are above it
  pub first_of_all : (db : Database) → Stands db t → (wanted : Piece → Bool) (asked : Option ℕ) → asked ≡ None → first_of (ending_from (from_of asked) (filter wanted (rows_of t))) ≡ find (λ p. wanted p && nat_lt 0 p.first) (rows_of t)
  unfolding rows_of
  first_of_all db stands wanted asked none =
      ap (λ a. first_of (ending_from (from_of a) (filter wanted (rows_of t)))) none ∙ first_beyond wanted 0 0 1 (rows_of t) (from_one (pieces_beside t) (pieces_kept db t stands kept) kept.rising) (omega arith) (omega arith)

-- ---- the number at which the row that was found ends

pub edge_after : (old new : State) (it : IsWell old) (sought : Sought) → IsDated sought → (after : ℕ) (r : Result (Option JoinedRow) Error) → Looks old new r (λ t found. option_map joined_in found ≡ find (begins_beyond sought after) (pieces_beside t))
    → (read : Result (Option Piece) StatementFault) → Passes r read (λ row piece. piece ≡ option_map piece_of (option_map joined_in row))
    → (edge : Option ℕ) → IfSome edge (λ n. IsOkAnd read (λ found. IsSomeAnd found (λ p. p.last ≡ n))) → defects new ≡ 0 → IsEdge edge (rows_of (tables_in new))
edge_after old new it sought dated after r looks read passes edge is none =
    let first = before old new it r _ looks none in
    so_still old new it r _ looks (λ t. IsEdge edge (rows_of t)) none
    (edge_found (λ p. is_sought sought p && nat_lt after p.first) (rows_of (tables_in old)) edge read (go (it.kept first) r (looks.found (sure new none).0 (tables_in old) (it.stands first)) passes) is)
  where
    go : AreKept (tables_in old) → (q : Result (Option JoinedRow) Error) → IfOk q (λ found. option_map joined_in found ≡ find (begins_beyond sought after) (pieces_beside (tables_in old)))
        → Passes q read (λ row piece. piece ≡ option_map piece_of (option_map joined_in row)) → (row : Option Piece) → read ≡ Ok row → row ≡ find (λ p. is_sought sought p && nat_lt after p.first) (rows_of (tables_in old))
    go kept (Ok x) found passes row same = beyond_found (tables_in old) kept sought dated after (option_map joined_in x) row found (subst (λ (z : Result (Option Piece) StatementFault). IfOk z (λ piece. piece ≡ option_map piece_of (option_map joined_in x))) same passes)
    go kept (Err e) found bad row same = absurd (true≢false (sym (subst (λ (z : Result (Option Piece) StatementFault). IsErr z) same bad)))
