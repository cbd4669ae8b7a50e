-- Rows that are apart, each beside its lot, are pieces that rise.
use Rattle.std.proofs.Common.{◌≡◌, ℕ, ◌+◌, ◌≤◌, ◌==◌, ◌&&◌, List, [], ◌∷◌, Bool, true, false, map, is_some, Option, Some, None, option_map, refl, sym, ap, ◌∙◌, arith, true≢false}
use Rattle.std.specs.Prelude.{nat_le, nat_lt}
use Rattle.std.specs.declared.cmp.Ordering.{Ordering}
use Rattle.std.specs.declared.cmp.Ordering.TheVariants.{Less, Equal, Greater}
use Rattle.std.specs.List.{list_all, list_any, cons_option}
use Rattle.std.specs.Option.{option_map_or}
use Rattle.std.specs.Ordering.{eq_by_cmp, nat_cmp, is_eq, ordering_then}
use Rattle.std.specs.Cmp.{unsigned_tied}
use Rattle.std.proofs.lemmas.Bool.{and_parts, and_from, leb-true, eqb-true, ltb-true, lt-ltb}
use Rattle.goo_types.specs.Number.{is_number, code_of}
use Rattle.goo_types.specs.Piece.{IsRising, IsRisingFrom}
use Rattle.goo_types.specs.declared.piece.Piece.{Piece}
use Rattle.goo_tables_rows.specs.Beside.{beside}
use Rattle.goo_tables_rows.specs.Rows.{Tables, Lot, lot_key, lot_row}
use Rattle.goo_tables_rows.specs.Stands.{Keeps}
use Rattle.goo_tables_rows.specs.declared.piece.PieceRow.{PieceRow}
use Rattle.goo_spec_tables.specs.Places.{piece_of, rows_of}
use Rattle.goo_spec_tables.specs.Readable.{is_act, names_act, is_piece}
use Rattle.goo_store_rules.specs.WellKept.{are_apart, pair_cmp, has_lot_of}
use Rattle.goo_store_rules.proofs.RowsByKey.{row_under, any_keyed}
use Rattle.goo_store_rules.proofs.KeptCertificates.{have_lots}

last_two : (a b c d e : Bool) → (a && (b && (c && d))) && e ≡ true → (c ≡ true) × (d ≡ true)
last_two true true true true e all = (refl, refl)
last_two true true true false e all = absurd (true≢false (sym all))
last_two true true false d e all = absurd (true≢false (sym all))
last_two true false c d e all = absurd (true≢false (sym all))
last_two false b c d e all = absurd (true≢false (sym all))

-- a row that can be read has its ends in order, with one code
pub row_ends : (p : PieceRow) → is_piece p ≡ true → (p.first ≤ p.last) × (code_of p.first ≡ code_of p.last)
row_ends p good =
    let parts = last_two (is_number p.first) (is_number p.last) (nat_le p.first p.last) (code_of p.first == code_of p.last) (is_act p.account && names_act p.kind p.act) good in
    (leb-true p.first p.last parts.0, eqb-true (code_of p.first) (code_of p.last) parts.1)

-- ---- rows that are apart

-- the least number that may come behind
abbrev behind : Option ℕ → ℕ
behind None = 0
behind (Some last) = last + 1

begins : (before : Option ℕ) (p : PieceRow) (ps : List PieceRow) → are_apart before (p ∷ ps) ≡ true → (behind before ≤ p.first) × (are_apart (Some p.last) ps ≡ true)
begins None p ps apart = (omega arith, apart)
begins (Some last) p ps apart = let parts = and_parts (nat_lt last p.first) (are_apart (Some p.last) ps) apart in (let low = ltb-true last p.first parts.0 in omega (arith, low), parts.1)

begins_so : (before : Option ℕ) (p : PieceRow) (ps : List PieceRow) → behind before ≤ p.first → are_apart (Some p.last) ps ≡ true → are_apart before (p ∷ ps) ≡ true
begins_so None p ps low rest = rest
begins_so (Some last) p ps low rest = and_from (nat_lt last p.first) (are_apart (Some p.last) ps) (lt-ltb last p.first (omega (arith, low))) rest

weaker : (low high : ℕ) (ps : List Piece) → low ≤ high → IsRisingFrom high ps → IsRisingFrom low ps
weaker low high [] less up = tt
weaker low high (p ∷ ps) less up = (let first = up.0 in omega (arith, less, first), up.1, up.2)

module _ (lots : List Lot) where
  rise : (before : Option ℕ) (ps : List PieceRow) → list_all is_piece ps ≡ true → are_apart before ps ≡ true → IsRisingFrom (behind before) (map piece_of (beside lots ps))
  rise before [] good apart = tt
  rise before (p ∷ ps) good apart =
      let both = and_parts (is_piece p) (list_all is_piece ps) good in
      let first = begins before p ps apart in
      go (row_under lot_key lots p.lot) (row_ends p both.0) first.0 (rise (Some p.last) ps both.1 first.1)
    where
      go : (o : Option Lot) → (p.first ≤ p.last) × (code_of p.first ≡ code_of p.last) → behind before ≤ p.first → IsRisingFrom (p.last + 1) (map piece_of (beside lots ps))
          → IsRisingFrom (behind before) (map piece_of (cons_option (option_map (λ l. (p, l)) o) (beside lots ps)))
      go None ends low rest = let to = ends.0 in weaker (behind before) (p.last + 1) _ (omega (arith, to, low)) rest
      go (Some l) ends low rest = (low, ends, rest)

  apart_so : (before : Option ℕ) (ps : List PieceRow) → have_lots lots ps ≡ true → IsRisingFrom (behind before) (map piece_of (beside lots ps)) → are_apart before ps ≡ true
  apart_so before [] there up = refl
  apart_so before (p ∷ ps) there up =
      let both = and_parts (is_some (row_under lot_key lots p.lot)) (have_lots lots ps) there in
      go (row_under lot_key lots p.lot) both.0 up (apart_so (Some p.last) ps both.1)
    where
      go : (o : Option Lot) → is_some o ≡ true → IsRisingFrom (behind before) (map piece_of (cons_option (option_map (λ l. (p, l)) o) (beside lots ps)))
          → (IsRisingFrom (p.last + 1) (map piece_of (beside lots ps)) → are_apart (Some p.last) ps ≡ true) → are_apart before (p ∷ ps) ≡ true
      go None some rises more = absurd (true≢false (sym some))
      go (Some l) some rises more = begins_so before p ps rises.0 (more rises.2)

module _ (t : Tables) where
  -- the rows are apart where their pieces rise
  pub rising_from : list_all is_piece t.pieces ≡ true → are_apart None t.pieces ≡ true → IsRising (rows_of t)
  unfolding rows_of
  rising_from good apart = rise t.lots None t.pieces good apart

  pub rising_back : have_lots t.lots t.pieces ≡ true → IsRising (rows_of t) → are_apart None t.pieces ≡ true
  unfolding rows_of
  rising_back there up = apart_so t.lots None t.pieces there up

-- ---- the lots of rows

nothing : (b : Bool) → false ≡ b && false
nothing true = refl
nothing false = refl

itself : (b : Bool) → b ≡ b && true
itself true = refl
itself false = refl

turned : (r s : Ordering) → is_eq (ordering_then r s) ≡ is_eq s && is_eq r
turned Less s = nothing (is_eq s)
turned Equal s = itself (is_eq s)
turned Greater s = nothing (is_eq s)

lot_test : (id origin : ℕ) (l : Lot) → eq_by_cmp pair_cmp (id, origin) (l.id, l.origin) ≡ (origin == l.origin) && eq_by_cmp nat_cmp id l.id
lot_test id origin l = turned (nat_cmp id l.id) (nat_cmp origin l.origin) ∙ ap (λ b. b && eq_by_cmp nat_cmp id l.id) (unsigned_tied origin l.origin)

some_passes : {X : Type 0} (test : X → Bool) (o : Option X) → option_map_or test o false ≡ true → is_some o ≡ true
some_passes test None none = none
some_passes test (Some x) passes = refl

module _ (rows : List _) (lots : List Lot) (keeps : Keeps rows lot_row lot_key lots) where
  -- a lot of this number has the origin where the only one of this number has it
  pub of_origin : (origin id : ℕ) → has_lot_of origin lots id ≡ option_map_or (λ l. origin == l.origin) (row_under lot_key lots id) false
  of_origin origin id = (λ i. list_any (λ l. lot_test id origin l i) lots) ∙ any_keyed (λ (l : Lot). l.id) (λ l. origin == l.origin) id rows lot_row lots keeps

  -- a row's lot is there
  pub lots_from : (ps : List PieceRow) → list_all (λ p. has_lot_of (code_of p.first) lots p.lot) ps ≡ true → have_lots lots ps ≡ true
  lots_from [] all = refl
  lots_from (p ∷ ps) all =
      let both = and_parts (has_lot_of (code_of p.first) lots p.lot) (list_all (λ q. has_lot_of (code_of q.first) lots q.lot) ps) all in
      and_from (is_some (row_under lot_key lots p.lot)) (have_lots lots ps)
      (some_passes (λ (l : Lot). code_of p.first == l.origin) (row_under lot_key lots p.lot) (sym (of_origin (code_of p.first) p.lot) ∙ both.0)) (lots_from ps both.1)
