-- What the statements on `piece` joined with `lot` show.
use Rattle.std.proofs.Common.{◌≡◌, ℕ, ℤ, Bool, pos, negsuc, ◌&&◌, List, [], ◌∷◌, map, filter, flat_map, find, reverse, codes, true, false, cond, None, Some, Option, option_map, refl, sym, ap, subst, ◌∙◌, take, All, Less, int_eq, nat_le, nat_lt}
use Rattle.std.specs.List.{AllZip, AllByRecursion, cons_option, list_all}
use Rattle.std.proofs.lemmas.List.{reverse-append, take-map}
use Rattle.sqlite_tied.specs.Compute.{everything}
use Rattle.sqlite.specs.declared.types.Value.TheVariants.{Int, Text}
use Rattle.sqlite.specs.Collation.TheVariants.{Binary}
use Rattle.sqlite.specs.Order.{Row}
use Rattle.sqlite.specs.Term.{Term, lit, col, op2, holds, eval_all}
use Rattle.sqlite.specs.Query.{Query, IsAnswer}
use Rattle.sqlite_sql.specs.Term.{Env}
use Rattle.sqlite_sql.specs.Query.{Join, inner, left, end}
use Rattle.sqlite.specs.Program.{overlay}
use Rattle.sqlite.specs.Listing.{understood}
use Rattle.sqlite.specs.State.{State}
use Rattle.sqlite.specs.Tree.{Trees, IsAscending}
use Rattle.sqlite_sql.specs.declared.ops.BinaryOp.TheVariants.{Compare}
use Rattle.sqlite_sql.specs.declared.ops.CompareOp.TheVariants.{Gt, Eq, Lt, Le, Ge}
use Rattle.sqlite_value.specs.declared.keys.Key.{Key}
use Rattle.sqlite_value.specs.Order.{value_cmp}
use Rattle.sqlite_value.proofs.OrderLemmas.{value_cmp-Int}
use Rattle.sqlite_keyed.specs.Keyed.{get_by}
use Rattle.sqlite_keyed.specs.Lists.{pairs}
use Rattle.sqlite_keyed.proofs.KeyedLemmas.{Less-from_lt}
use Rattle.sqlite_keyed.proofs.ListLemmas.{map-map, map-flat_map, flat_map_same_on, all_weaker, all-append, all-filter, ascending_weaker, IsPermutation-same}
use Rattle.sqlite_typed.specs.Tests.{bytes_lt, both_and}
use Rattle.sqlite_typed.proofs.TestLemmas.{at_ints, at_texts, at_nullable, then_term, last_term, last_key}
use Rattle.goo_tables_rows.specs.Rows.{Tables, Lot, lot_row, lot_key, piece_row, piece_key, LotCarrier, lot_carrier_row, lot_carrier_key, carrier_of_lot}
use Rattle.goo_tables_rows.specs.Beside.{beside, pieces_beside, joined_in, joined_columns}
use Rattle.goo_tables_rows.specs.declared.piece.PieceRow.{PieceRow}
use Rattle.goo_tables_rows.specs.declared.joined.JoinedRow.{JoinedRow}
use Rattle.goo_tables_rows.specs.Reads.{joined_reads}
use Rattle.goo_tables_rows.specs.Stands.{Stands}
use Rattle.goo_tables_rows.specs.Asked.{FirstZip}
use Rattle.goo_tables_rows.specs.Readable.{joined_readable}
use Rattle.goo_tables_rows.proofs.Read.{all_listed, first_listed}
use Rattle.goo_tables_rows.proofs.Same.{joined_same}
use Rattle.goo_tables_rows.proofs.Joining.{is_of_lot, passing_pairs, rising_passing, falling_passing, falling_pairs, first_left}
use Rattle.std.proofs.lemmas.List.Elements.{All-take}
use Rattle.goo_tables_accounts.proofs.AnyTable.{readable_left, readable_last}
use Rattle.goo_tables_accounts.proofs.Queries.{rising, falling}
use Rattle.goo_tables_accounts.proofs.Covering.{Covers, or_empty, covers_table, covers_keyed, each_once, answer_covered}
use Rattle.goo_tables_accounts.proofs.Asking.{Asks, Says}

abbrev joined_terms : List Term
joined_terms =
    col 1 0 ∷ col 1 2 ∷ col 1 3 ∷ col 1 4 ∷ col 1 5 ∷ col 1 6
    ∷ col 2 0 ∷ col 2 2 ∷ col 2 3 ∷ col 2 4 ∷ col 2 5 ∷ col 2 6 ∷ col 2 7 ∷ col 2 8 ∷ col 2 9 ∷ col 2 10 ∷ col 2 11 ∷ col 2 12 ∷ col 2 13 ∷ col 2 14 ∷ col 3 2 ∷ []

abbrev on_lot : List Term
on_lot = op2 (Compare Eq Binary) (col 3 0) (col 2 0) ∷ []

-- each piece, each lot, and the row of the lot's carrier
abbrev joined_from : Join
joined_from = inner 10 (inner 8 (left 25 on_lot end))

-- a query on the pieces and their lots, in the order of the pieces, one way or the other
abbrev pub joined_query : List Term → Key → ℤ → Query
joined_query where_terms key limit = record {
  from = joined_from;
  filter = op2 (Compare Eq Binary) (col 2 0) (col 1 3) ∷ where_terms;
  group = None;
  project = joined_terms;
  distinct = false;
  collations = [];
  order = (col 1 0, key) ∷ [];
  limit = lit (Int limit);
  offset = lit (Int (pos 0));
}

-- ---- the lots that stand beside pieces have their carriers

found_has : {X : Type 0} (P : X → Type 0) (p : X → Bool) (xs : List X) (x : X) → AllByRecursion P xs → find p xs ≡ Some x → P x
found_has P p [] x all found = absurd cc
found_has P p (y ∷ ys) x all found = go (p y) found (found_has P p ys x all.1)
  where
    go : (b : Bool) → cond b (Some y) (find p ys) ≡ Some x → (find p ys ≡ Some x → P x) → P x
    go true is later = let same : y ≡ x = cc in subst P same all.0
    go false is later = later is

beside_has : (P : Lot → Type 0) (lots : List Lot) (pieces : List PieceRow) → AllByRecursion P lots → AllByRecursion (λ a. P a.1) (beside lots pieces)
beside_has P lots [] all = tt
beside_has P lots (p ∷ pieces) all = go (get_by lot_key lots (pos p.lot)) refl (beside_has P lots pieces all)
  where
    go : (o : Option Lot) → get_by lot_key lots (pos p.lot) ≡ o → AllByRecursion (λ a. P a.1) (beside lots pieces) → AllByRecursion (λ a. P a.1) (cons_option (option_map (λ (l : Lot). (p, l)) o) (beside lots pieces))
    go None is more = more
    go (Some l) is more = (found_has P _ lots l all is, more)

all_reversed : {A : Type 0} (P : A → Type 0) (xs : List A) → AllByRecursion P xs → AllByRecursion P (reverse xs)
all_reversed P [] all = tt
all_reversed P (x ∷ xs) all = subst (AllByRecursion P) (sym (reverse-append (x ∷ []) xs)) (all-append P (reverse xs) (x ∷ []) (all_reversed P xs all.1) (all.0, tt))

module _ (where_terms : List Term) (params : Row) (old : State) (t : Tables) (it : Stands old.now t) where
  abbrev db : Trees
  db = overlay old.now.trees []

  abbrev slots : PieceRow → Lot → Option LotCarrier → Env
  slots p l o = params ∷ piece_row p ∷ lot_row l ∷ or_empty lot_carrier_row o ∷ []

  abbrev env : PieceRow × Lot → Env
  env a = slots a.0 a.1 (get_by lot_carrier_key t.lot_carriers (pos a.1.id))

  of_lot : (p : PieceRow) (l : Lot) → Covers db (left 25 on_lot end) (params ∷ piece_row p ∷ lot_row l ∷ []) (env (p, l) ∷ [])
  of_lot p l = covers_keyed db 25 lot_carrier_row lot_carrier_key t.lot_carriers it.lot_carriers.are it.lot_carriers.rise on_lot (params ∷ piece_row p ∷ lot_row l ∷ []) (pos l.id) (λ c. last_term (at_ints false Eq (pos c.lot) (pos l.id)))

  all_pairs : flat_map (λ p. flat_map (λ l. env (p, l) ∷ []) t.lots) t.pieces ≡ map env (pairs t.pieces t.lots)
  all_pairs =
      flat_map_same_on _ (λ p. map env (map (λ l. (p, l)) t.lots)) (λ p. each_once (λ l. env (p, l)) t.lots ∙ sym (map-map env (λ l. (p, l)) t.lots)) t.pieces
      ∙ sym (map-flat_map env (λ p. map (λ l. (p, l)) t.lots) t.pieces)

  covers : Covers db joined_from (params ∷ []) (map env (pairs t.pieces t.lots))
  covers terms =
      covers_table db 10 piece_row t.pieces it.pieces.are (inner 8 (left 25 on_lot end)) (params ∷ []) (λ p. flat_map (λ l. env (p, l) ∷ []) t.lots)
      (λ p. covers_table db 8 lot_row t.lots it.lots.are (left 25 on_lot end) (params ∷ piece_row p ∷ []) (λ l. env (p, l) ∷ []) (of_lot p)) terms
      ∙ ap (filter (λ e. list_all (holds e) terms)) all_pairs

  shows_carrier : (p : PieceRow) (l : Lot) (o : Option LotCarrier) → eval_all joined_terms (slots p l o) ≡ joined_columns (p, record l { carrier = option_map (λ c. c.carrier) o })
  shows_carrier p l None = refl
  shows_carrier p l (Some c) = refl

  abbrev Shows : PieceRow × Lot → Type 0
  Shows a = eval_all joined_terms (env a) ≡ joined_columns a

  shows : AllByRecursion Shows (pieces_beside t)
  shows =
      all_weaker (λ a. a.1.carrier ≡ carrier_of_lot t.lot_carriers a.1.id) Shows
      (λ a is. shows_carrier a.0 a.1 (get_by lot_carrier_key t.lot_carriers (pos a.1.id)) ∙ ap (λ c. joined_columns (a.0, record a.1 { carrier = c })) (sym is))
      (pieces_beside t) (beside_has (λ l. l.carrier ≡ carrier_of_lot t.lot_carriers l.id) t.lots t.pieces it.lots_carried)

  module _ (q : PieceRow × Lot → Bool) (tests : (a : PieceRow × Lot) → list_all (holds (env a)) where_terms ≡ q a) (rows : List Row) where
    on_and : (a : PieceRow × Lot) → list_all (holds (env a)) (op2 (Compare Eq Binary) (col 2 0) (col 1 3) ∷ where_terms) ≡ (is_of_lot a && q a)
    on_and a = then_term (at_ints false Eq (pos a.1.id) (pos a.0.lot)) (tests a)

    abbrev found : List (PieceRow × Lot)
    found = filter q (pieces_beside t)

    rises : IsAscending (λ a b. value_cmp (Int (piece_key a.0)) (Int (piece_key b.0)) ≡ Less) found
    rises = ascending_weaker _ _ (λ a b h. value_cmp-Int (piece_key a.0) (piece_key b.0) ∙ Less-from_lt (piece_key a.0) (piece_key b.0) h) found (rising_passing t.lots t.pieces q it.pieces.rise)

    pub shows_rising : IsAnswer (joined_query where_terms rising (negsuc 0)) db params rows → rows ≡ map joined_columns found
    shows_rising =
        answer_covered (joined_query where_terms rising (negsuc 0)) db params env (pairs t.pieces t.lots) covers (λ a. is_of_lot a && q a) on_and refl refl found joined_columns (all-filter Shows q (pieces_beside t) shows)
        (IsPermutation-same _ _ (passing_pairs t.lots t.pieces q it.lots.rise)) (ascending_weaker _ _ (λ a b h. last_key h) found rises) rows

    pub shows_first : IsAnswer (joined_query where_terms rising (pos 1)) db params rows → rows ≡ take 1 (map joined_columns found)
    shows_first =
        answer_covered (joined_query where_terms rising (pos 1)) db params env (pairs t.pieces t.lots) covers (λ a. is_of_lot a && q a) on_and refl refl found joined_columns (all-filter Shows q (pieces_beside t) shows)
        (IsPermutation-same _ _ (passing_pairs t.lots t.pieces q it.lots.rise)) (ascending_weaker _ _ (λ a b h. last_key h) found rises) rows

    pub shows_page : IsAnswer (joined_query where_terms rising (pos 256)) db params rows → rows ≡ take 256 (map joined_columns found)
    shows_page =
        answer_covered (joined_query where_terms rising (pos 256)) db params env (pairs t.pieces t.lots) covers (λ a. is_of_lot a && q a) on_and refl refl found joined_columns (all-filter Shows q (pieces_beside t) shows)
        (IsPermutation-same _ _ (passing_pairs t.lots t.pieces q it.lots.rise)) (ascending_weaker _ _ (λ a b h. last_key h) found rises) rows

    pub shows_last : IsAnswer (joined_query where_terms falling (pos 1)) db params rows → rows ≡ take 1 (map joined_columns (filter q (reverse (pieces_beside t))))
    shows_last =
        let all = filter q (reverse (pieces_beside t)) in
        answer_covered (joined_query where_terms falling (pos 1)) db params env (pairs t.pieces t.lots) covers (λ a. is_of_lot a && q a) on_and refl refl all joined_columns
        (all-filter Shows q (reverse (pieces_beside t)) (all_reversed Shows (pieces_beside t) shows)) (falling_pairs t.lots t.pieces q it.lots.rise)
        (ascending_weaker _ _ (λ a b h. last_key (value_cmp-Int (piece_key b.0) (piece_key a.0)) ∙ Less-from_lt (piece_key b.0) (piece_key a.0) h) all (falling_passing t.lots t.pieces q it.pieces.rise)) rows

  -- what is shown can be read, where each piece can beside its lot
  module _ (all : All joined_readable (map joined_columns (pieces_beside t))) (rows : List Row) where
    abbrev passes : PieceRow × Lot → Bool
    passes a = list_all (holds (env a)) where_terms

    pub readable_rising : IsAnswer (joined_query where_terms rising (negsuc 0)) db params rows → All joined_readable rows
    readable_rising answer = subst (λ s. All joined_readable s) (sym (shows_rising passes (λ _. refl) rows answer)) (readable_left joined_readable joined_columns passes (pieces_beside t) all)

    pub readable_first : IsAnswer (joined_query where_terms rising (pos 1)) db params rows → All joined_readable rows
    readable_first answer =
        subst (λ s. All joined_readable s) (sym (shows_first passes (λ _. refl) rows answer))
        (All-take joined_readable 1 (map joined_columns (filter passes (pieces_beside t))) (readable_left joined_readable joined_columns passes (pieces_beside t) all))

    pub readable_page : IsAnswer (joined_query where_terms rising (pos 256)) db params rows → All joined_readable rows
    readable_page answer =
        subst (λ s. All joined_readable s) (sym (shows_page passes (λ _. refl) rows answer))
        (All-take joined_readable 256 (map joined_columns (filter passes (pieces_beside t))) (readable_left joined_readable joined_columns passes (pieces_beside t) all))

    pub readable_falling : IsAnswer (joined_query where_terms falling (pos 1)) db params rows → All joined_readable rows
    readable_falling answer =
        subst (λ s. All joined_readable s) (sym (shows_last passes (λ _. refl) rows answer))
        (All-take joined_readable 1 (map joined_columns (filter passes (reverse (pieces_beside t))))
        (readable_left joined_readable joined_columns passes (reverse (pieces_beside t)) (readable_last joined_readable joined_columns (pieces_beside t) all)))

-- ---- pieces_beginning

abbrev pub in_range_text : List ℕ
in_range_text = codes "SELECT p.first, p.last, p.lot, p.kind, p.account, p.act, l.id, l.origin, l.device, l.country, l.site, l.tech, l.source, l.capacity_w, l.commissioned, l.support, l.first_day, l.last_day, l.expires_on, l.issued_on, c.carrier FROM piece AS p JOIN lot AS l ON l.id = p.lot LEFT JOIN lot_carrier AS c ON c.lot = l.id WHERE p.first >= ?1 AND p.first <= ?2 ORDER BY p.first"

abbrev in_range_where : List Term
in_range_where = op2 (Compare Ge Binary) (col 1 0) (col 0 0) ∷ op2 (Compare Le Binary) (col 1 0) (col 0 1) ∷ []

abbrev pub in_range_query : Query
in_range_query = joined_query in_range_where rising (negsuc 0)

pub in_range_asks : Asks in_range_text in_range_query (λ (a : ℕ × ℕ). Int (pos a.0) ∷ Int (pos a.1) ∷ [])
unfolding understood everything
in_range_asks = record { names = _; is = refl; plain = (refl, refl); unlisted = refl; suits = λ _. refl }

pub in_range_shows : (old : State) (low : ℕ) (high : ℕ) → Says old in_range_query (Int (pos low) ∷ Int (pos high) ∷ []) (λ (xs : List JoinedRow) rows. AllZip joined_reads rows xs)
    (λ t xs. map joined_in xs ≡ filter (λ (a : PieceRow × Lot). nat_le low a.0.first && nat_le a.0.first high) (pieces_beside t))
in_range_shows old low high t it xs rows answer read =
    let q = λ (a : PieceRow × Lot). nat_le low a.0.first && nat_le a.0.first high in
    let shown = shows_rising in_range_where (Int (pos low) ∷ Int (pos high) ∷ []) old t it q (λ a. then_term (at_ints false Ge (pos a.0.first) (pos low)) (last_term (at_ints false Le (pos a.0.first) (pos high)))) rows answer in
    all_listed joined_reads joined_columns joined_in joined_same (filter q (pieces_beside t)) xs (subst (λ l. AllZip joined_reads l xs) shown read)

-- ---- piece_before

abbrev pub before_text : List ℕ
before_text = codes "SELECT p.first, p.last, p.lot, p.kind, p.account, p.act, l.id, l.origin, l.device, l.country, l.site, l.tech, l.source, l.capacity_w, l.commissioned, l.support, l.first_day, l.last_day, l.expires_on, l.issued_on, c.carrier FROM piece AS p JOIN lot AS l ON l.id = p.lot LEFT JOIN lot_carrier AS c ON c.lot = l.id WHERE p.first < ?1 ORDER BY p.first DESC LIMIT 1"

abbrev before_where : List Term
before_where = op2 (Compare Lt Binary) (col 1 0) (col 0 0) ∷ []

abbrev pub before_query : Query
before_query = joined_query before_where falling (pos 1)

pub before_asks : Asks before_text before_query (λ (a : ℕ). Int (pos a) ∷ [])
unfolding understood everything
before_asks = record { names = _; is = refl; plain = (refl, refl); unlisted = refl; suits = λ _. refl }

pub before_shows : (old : State) (low : ℕ) → Says old before_query (Int (pos low) ∷ []) (λ (x : Option JoinedRow) rows. FirstZip joined_reads rows x)
    (λ t x. option_map joined_in x ≡ find (λ (a : PieceRow × Lot). nat_lt a.0.first low) (reverse (pieces_beside t)))
before_shows old low t it x rows answer read =
    let q = λ (a : PieceRow × Lot). nat_lt a.0.first low in
    let shown = shows_last before_where (Int (pos low) ∷ []) old t it q (λ a. last_term (at_ints false Lt (pos a.0.first) (pos low))) rows answer in
    first_listed joined_reads joined_columns joined_in joined_same q (reverse (pieces_beside t)) x (first_left joined_reads _ x (subst (λ l. FirstZip joined_reads l x) shown read))

-- ---- pieces_of_account

abbrev pub of_account_text : List ℕ
of_account_text = codes "SELECT p.first, p.last, p.lot, p.kind, p.account, p.act, l.id, l.origin, l.device, l.country, l.site, l.tech, l.source, l.capacity_w, l.commissioned, l.support, l.first_day, l.last_day, l.expires_on, l.issued_on, c.carrier FROM piece AS p JOIN lot AS l ON l.id = p.lot LEFT JOIN lot_carrier AS c ON c.lot = l.id WHERE p.account = ?1 ORDER BY p.first"

abbrev of_account_where : List Term
of_account_where = op2 (Compare Eq Binary) (col 1 5) (col 0 0) ∷ []

abbrev pub of_account_query : Query
of_account_query = joined_query of_account_where rising (negsuc 0)

pub of_account_asks : Asks of_account_text of_account_query (λ (a : ℕ). Int (pos a) ∷ [])
unfolding understood everything
of_account_asks = record { names = _; is = refl; plain = (refl, refl); unlisted = refl; suits = λ _. refl }

pub of_account_shows : (old : State) (account : ℕ) → Says old of_account_query (Int (pos account) ∷ []) (λ (xs : List JoinedRow) rows. AllZip joined_reads rows xs)
    (λ t xs. map joined_in xs ≡ filter (λ (a : PieceRow × Lot). int_eq (pos a.0.account) (pos account)) (pieces_beside t))
of_account_shows old account t it xs rows answer read =
    let q = λ (a : PieceRow × Lot). int_eq (pos a.0.account) (pos account) in
    let shown = shows_rising of_account_where (Int (pos account) ∷ []) old t it q (λ a. last_term (at_ints false Eq (pos a.0.account) (pos account))) rows answer in
    all_listed joined_reads joined_columns joined_in joined_same (filter q (pieces_beside t)) xs (subst (λ l. AllZip joined_reads l xs) shown read)

-- ---- next_of

abbrev pub next_of_text : List ℕ
next_of_text = codes "SELECT p.first, p.last, p.lot, p.kind, p.account, p.act, l.id, l.origin, l.device, l.country, l.site, l.tech, l.source, l.capacity_w, l.commissioned, l.support, l.first_day, l.last_day, l.expires_on, l.issued_on, c.carrier FROM piece AS p JOIN lot AS l ON l.id = p.lot LEFT JOIN lot_carrier AS c ON c.lot = l.id WHERE p.account = ?1 AND p.first > ?2 ORDER BY p.first LIMIT 1"

abbrev next_of_where : List Term
next_of_where = op2 (Compare Eq Binary) (col 1 5) (col 0 0) ∷ op2 (Compare Gt Binary) (col 1 0) (col 0 1) ∷ []

abbrev pub next_of_query : Query
next_of_query = joined_query next_of_where rising (pos 1)

pub next_of_asks : Asks next_of_text next_of_query (λ (a : ℕ × ℕ). Int (pos a.0) ∷ Int (pos a.1) ∷ [])
unfolding understood everything
next_of_asks = record { names = _; is = refl; plain = (refl, refl); unlisted = refl; suits = λ _. refl }

pub next_of_shows : (old : State) (account : ℕ) (after : ℕ) → Says old next_of_query (Int (pos account) ∷ Int (pos after) ∷ []) (λ (x : Option JoinedRow) rows. FirstZip joined_reads rows x)
    (λ t x. option_map joined_in x ≡ find (λ (a : PieceRow × Lot). int_eq (pos a.0.account) (pos account) && nat_lt after a.0.first) (pieces_beside t))
next_of_shows old account after t it x rows answer read =
    let q = λ (a : PieceRow × Lot). int_eq (pos a.0.account) (pos account) && nat_lt after a.0.first in
    let shown = shows_first next_of_where (Int (pos account) ∷ Int (pos after) ∷ []) old t it q (λ a. then_term (at_ints false Eq (pos a.0.account) (pos account)) (last_term (at_ints false Gt (pos a.0.first) (pos after)))) rows answer in
    first_listed joined_reads joined_columns joined_in joined_same q (pieces_beside t) x (first_left joined_reads _ x (subst (λ l. FirstZip joined_reads l x) shown read))

-- ---- page_of_account

abbrev pub page_of_text : List ℕ
page_of_text = codes "SELECT p.first, p.last, p.lot, p.kind, p.account, p.act, l.id, l.origin, l.device, l.country, l.site, l.tech, l.source, l.capacity_w, l.commissioned, l.support, l.first_day, l.last_day, l.expires_on, l.issued_on, c.carrier FROM piece AS p JOIN lot AS l ON l.id = p.lot LEFT JOIN lot_carrier AS c ON c.lot = l.id WHERE p.account = ?1 AND p.first > ?2 ORDER BY p.first LIMIT 256"

abbrev pub page_of_query : Query
page_of_query = joined_query next_of_where rising (pos 256)

pub page_of_asks : Asks page_of_text page_of_query (λ (a : ℕ × ℕ). Int (pos a.0) ∷ Int (pos a.1) ∷ [])
unfolding understood everything
page_of_asks = record { names = _; is = refl; plain = (refl, refl); unlisted = refl; suits = λ _. refl }

pub page_of_shows : (old : State) (account : ℕ) (after : ℕ) → Says old page_of_query (Int (pos account) ∷ Int (pos after) ∷ []) (λ (xs : List JoinedRow) rows. AllZip joined_reads rows xs)
    (λ t xs. map joined_in xs ≡ take 256 (filter (λ (a : PieceRow × Lot). int_eq (pos a.0.account) (pos account) && nat_lt after a.0.first) (pieces_beside t)))
page_of_shows old account after t it xs rows answer read =
    let q = λ (a : PieceRow × Lot). int_eq (pos a.0.account) (pos account) && nat_lt after a.0.first in
    let shown = shows_page next_of_where (Int (pos account) ∷ Int (pos after) ∷ []) old t it q (λ a. then_term (at_ints false Eq (pos a.0.account) (pos account)) (last_term (at_ints false Gt (pos a.0.first) (pos after)))) rows answer in
    all_listed joined_reads joined_columns joined_in joined_same (take 256 (filter q (pieces_beside t))) xs (subst (λ l. AllZip joined_reads l xs) (shown ∙ take-map joined_columns 256 (filter q (pieces_beside t))) read)

-- ---- next_expiring

abbrev pub next_due_text : List ℕ
next_due_text = codes "SELECT p.first, p.last, p.lot, p.kind, p.account, p.act, l.id, l.origin, l.device, l.country, l.site, l.tech, l.source, l.capacity_w, l.commissioned, l.support, l.first_day, l.last_day, l.expires_on, l.issued_on, c.carrier FROM piece AS p JOIN lot AS l ON l.id = p.lot LEFT JOIN lot_carrier AS c ON c.lot = l.id WHERE p.kind = 1 AND p.first > ?2 AND l.expires_on < ?1 ORDER BY p.first LIMIT 1"

abbrev next_due_where : List Term
next_due_where = op2 (Compare Eq Binary) (col 1 4) (lit (Int (pos 1))) ∷ op2 (Compare Gt Binary) (col 1 0) (col 0 1) ∷ op2 (Compare Lt Binary) (col 2 13) (col 0 0) ∷ []

abbrev pub next_due_query : Query
next_due_query = joined_query next_due_where rising (pos 1)

pub next_due_asks : Asks next_due_text next_due_query (λ (a : List ℕ × ℕ). Text a.0 ∷ Int (pos a.1) ∷ [])
unfolding understood everything
next_due_asks = record { names = _; is = refl; plain = (refl, refl); unlisted = refl; suits = λ _. refl }

pub next_due_shows : (old : State) (day : List ℕ) (after : ℕ) → Says old next_due_query (Text day ∷ Int (pos after) ∷ []) (λ (x : Option JoinedRow) rows. FirstZip joined_reads rows x)
    (λ t x. option_map joined_in x ≡ find (λ (a : PieceRow × Lot). int_eq (pos a.0.kind) (pos 1) && (nat_lt after a.0.first && both_and bytes_lt a.1.expires_on (Some day))) (pieces_beside t))
next_due_shows old day after t it x rows answer read =
    let q = λ (a : PieceRow × Lot). int_eq (pos a.0.kind) (pos 1) && (nat_lt after a.0.first && both_and bytes_lt a.1.expires_on (Some day)) in
    let shown = shows_first next_due_where (Text day ∷ Int (pos after) ∷ []) old t it q (λ a. then_term (at_ints false Eq (pos a.0.kind) (pos 1)) (then_term (at_ints false Gt (pos a.0.first) (pos after)) (last_term (at_nullable Text false Lt bytes_lt (at_texts false Lt) a.1.expires_on (Some day))))) rows answer in
    first_listed joined_reads joined_columns joined_in joined_same q (pieces_beside t) x (first_left joined_reads _ x (subst (λ l. FirstZip joined_reads l x) shown read))
