-- What the statement on an account's pieces shows.
use Rattle.std.proofs.Common.{◌≡◌, ◌&&◌, ℕ, Bool, pos, List, [], ◌∷◌, map, map-id, filter, codes, false, refl, sym, subst, ◌∙◌, take, All, int_eq, nat_lt}
use Rattle.std.specs.List.{AllZip, list_all}
use Rattle.std.proofs.lemmas.List.{take-map}
use Rattle.std.proofs.lemmas.List.Elements.{All-take}
use Rattle.sqlite_tied.specs.Compute.{everything}
use Rattle.sqlite.specs.declared.types.Value.TheVariants.{Int}
use Rattle.sqlite.specs.Collation.TheVariants.{Binary}
use Rattle.sqlite.specs.Order.{Row}
use Rattle.sqlite.specs.Term.{Term, lit, col, op2, holds}
use Rattle.sqlite.specs.Query.{Query, IsAnswer}
use Rattle.sqlite.specs.Program.{overlay}
use Rattle.sqlite.specs.Listing.{understood}
use Rattle.sqlite.specs.State.{State}
use Rattle.sqlite.specs.Tree.{Trees}
use Rattle.sqlite_sql.specs.declared.ops.BinaryOp.TheVariants.{Compare}
use Rattle.sqlite_sql.specs.declared.ops.CompareOp.TheVariants.{Eq, Gt}
use Rattle.sqlite_value.proofs.OrderLemmas.{value_cmp-Int}
use Rattle.sqlite_keyed.proofs.KeyedLemmas.{Less-from_lt}
use Rattle.sqlite_keyed.proofs.ListLemmas.{ascending_weaker, ascending-filter, IsPermutation-same}
use Rattle.sqlite_typed.proofs.AnswerLemmas.{at_end, last_table}
use Rattle.sqlite_typed.proofs.TestLemmas.{at_ints, last_term, last_key, then_term}
use Rattle.goo_tables_rows.specs.Readable.{piece_readable}
use Rattle.goo_tables_rows.specs.Reads.{piece_reads}
use Rattle.goo_tables_rows.specs.Rows.{Tables, piece_columns, piece_row, piece_key}
use Rattle.goo_tables_rows.specs.declared.piece.PieceRow.{PieceRow}
use Rattle.goo_tables_rows.specs.Stands.{Stands}
use Rattle.goo_tables_rows.proofs.Joining.{answer_listed}
use Rattle.goo_tables_rows.proofs.Read.{all_listed}
use Rattle.goo_tables_rows.proofs.Same.{piece_same}
use Rattle.goo_tables_accounts.proofs.AnyTable.{readable_left}
use Rattle.goo_tables_accounts.proofs.Asking.{Asks, Says}
use Rattle.goo_tables_accounts.proofs.Queries.{in_order}

abbrev page_text : List ℕ
page_text = codes "SELECT first, last, lot, kind, account, act FROM piece WHERE account = ?1 AND first > ?2 ORDER BY first LIMIT 256"

abbrev page_where : List Term
page_where = op2 (Compare Eq Binary) (col 1 5) (col 0 0) ∷ op2 (Compare Gt Binary) (col 1 0) (col 0 1) ∷ []

abbrev pub page_query : Query
page_query = record (in_order 10 page_where (col 1 0 ∷ col 1 2 ∷ col 1 3 ∷ col 1 4 ∷ col 1 5 ∷ col 1 6 ∷ [])) { limit = lit (Int (pos 256)) }

pub page_asks : Asks page_text page_query (λ (a : ℕ × ℕ). Int (pos a.0) ∷ Int (pos a.1) ∷ [])
unfolding understood everything
page_asks = record { names = _; is = refl; plain = (refl, refl); unlisted = refl; suits = λ _. refl }

module _ (params : Row) (old : State) (t : Tables) (it : Stands old.now t) where
  abbrev db : Trees
  db = overlay old.now.trees []

  shows_page : (q : PieceRow → Bool) → ((p : PieceRow) → list_all (holds (params ∷ piece_row p ∷ [])) page_where ≡ q p)
      → (rows : List Row) → IsAnswer page_query db params rows → rows ≡ take 256 (map piece_columns (filter q t.pieces))
  shows_page q tests rows =
      let source = last_table db 10 piece_row piece_key t.pieces it.pieces.are it.pieces.rise (at_end db) in
      answer_listed page_query db params source q tests piece_columns (λ _. refl) refl refl (filter q t.pieces) (IsPermutation-same _ _ refl)
      (ascending_weaker _ _ (λ a b h. last_key (value_cmp-Int (piece_key a) (piece_key b)) ∙ Less-from_lt (piece_key a) (piece_key b) h) _ (ascending-filter _ q t.pieces it.pieces.rise)) rows

  -- what is shown can be read, where the whole table can
  pub readable_page : All piece_readable (map piece_columns t.pieces) → (rows : List Row) → IsAnswer page_query db params rows → All piece_readable rows
  readable_page all rows answer =
      let passes = λ (p : PieceRow). list_all (holds (params ∷ piece_row p ∷ [])) page_where in
      subst (λ s. All piece_readable s) (sym (shows_page passes (λ _. refl) rows answer))
      (All-take piece_readable 256 (map piece_columns (filter passes t.pieces)) (readable_left piece_readable piece_columns passes t.pieces all))

pub page_shows : (old : State) (account : ℕ) (after : ℕ) → Says old page_query (Int (pos account) ∷ Int (pos after) ∷ []) (λ (xs : List PieceRow) rows. AllZip piece_reads rows xs)
    (λ t xs. xs ≡ take 256 (filter (λ (p : PieceRow). int_eq (pos p.account) (pos account) && nat_lt after p.first) t.pieces))
page_shows old account after t it xs rows answer read =
    let q = λ (p : PieceRow). int_eq (pos p.account) (pos account) && nat_lt after p.first in
    let is = shows_page (Int (pos account) ∷ Int (pos after) ∷ []) old t it q (λ p. then_term (at_ints false Eq (pos p.account) (pos account)) (last_term (at_ints false Gt (pos p.first) (pos after)))) rows answer in
    sym (map-id xs) ∙ all_listed piece_reads piece_columns (λ (x : PieceRow). x) piece_same (take 256 (filter q t.pieces)) xs (subst (λ l. AllZip piece_reads l xs) (is ∙ take-map piece_columns 256 (filter q t.pieces)) read)
