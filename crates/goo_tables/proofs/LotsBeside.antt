-- What a look-up of a lot shows: each lot beside the row of its carrier.
use Rattle.std.proofs.Common.{◌≡◌, pos, negsuc, Bool, false, List, [], ◌∷◌, All, map, filter, find, Option, Some, None, option_map, refl, sym, ap, subst, ◌∙◌}
use Rattle.std.specs.List.{AllByRecursion, list_all}
use Rattle.sqlite.specs.declared.types.Value.TheVariants.{Int}
use Rattle.sqlite.specs.Collation.TheVariants.{Binary}
use Rattle.sqlite.specs.Order.{Row}
use Rattle.sqlite.specs.Program.{overlay}
use Rattle.sqlite.specs.Query.{Query, IsAnswer}
use Rattle.sqlite.specs.State.{State}
use Rattle.sqlite.specs.Term.{Term, lit, col, op2, holds, eval_all}
use Rattle.sqlite.specs.Tree.{Trees}
use Rattle.sqlite_sql.specs.Term.{Env}
use Rattle.sqlite_sql.specs.Query.{inner, left, end}
use Rattle.sqlite_sql.specs.declared.ops.BinaryOp.TheVariants.{Compare}
use Rattle.sqlite_sql.specs.declared.ops.CompareOp.TheVariants.{Eq}
use Rattle.sqlite_typed.proofs.TestLemmas.{at_ints, last_term, last_key}
use Rattle.sqlite_value.proofs.OrderLemmas.{value_cmp-Int}
use Rattle.sqlite_keyed.specs.Keyed.{get_by}
use Rattle.sqlite_keyed.proofs.KeyedLemmas.{Less-from_lt}
use Rattle.sqlite_keyed.proofs.ListLemmas.{all_weaker, all-filter, ascending-filter, ascending_weaker, IsPermutation-same}
use Rattle.goo_tables_rows.specs.Asked.{FirstZip}
use Rattle.goo_tables_rows.specs.Readable.{lot_readable}
use Rattle.goo_tables_rows.specs.Reads.{lot_reads}
use Rattle.goo_tables_rows.specs.Rows.{Tables, Lot, lot_in, lot_columns, lot_row, lot_key, LotCarrier, lot_carrier_row, lot_carrier_key, carrier_of_lot}
use Rattle.goo_tables_rows.specs.Stands.{Stands}
use Rattle.goo_tables_rows.specs.declared.lot.LotRow.{LotRow}
use Rattle.goo_tables_rows.proofs.Read.{first_listed}
use Rattle.goo_tables_rows.proofs.Same.{lot_same}
use Rattle.goo_tables_accounts.proofs.AnyTable.{readable_left}
use Rattle.goo_tables_accounts.proofs.Covering.{Covers, or_empty, covers_table, covers_keyed, each_once, answer_covered}
use Rattle.goo_tables_accounts.proofs.Queries.{rising}

abbrev terms : List Term
terms =
    col 1 0 ∷ col 1 2 ∷ col 1 3 ∷ col 1 4 ∷ col 1 5 ∷ col 1 6 ∷ col 1 7 ∷ col 1 8 ∷ col 1 9 ∷ col 1 10 ∷ col 1 11 ∷ col 1 12 ∷ col 1 13 ∷ col 1 14 ∷ col 2 2 ∷ []

abbrev on_lot : List Term
on_lot = op2 (Compare Eq Binary) (col 2 0) (col 1 0) ∷ []

-- the lots that pass, in the order of their numbers
abbrev pub lots_query : List Term → Query
lots_query where_terms = record {
  from = inner 8 (left 25 on_lot end);
  filter = where_terms;
  group = None;
  project = terms;
  distinct = false;
  collations = [];
  order = (col 1 0, rising) ∷ [];
  limit = lit (Int (negsuc 0));
  offset = lit (Int (pos 0));
}

module _ (where_terms : List Term) (params : Row) (old : State) (t : Tables) (it : Stands old.now t) where
  abbrev db : Trees
  db = overlay old.now.trees []

  abbrev slots : Lot → Option LotCarrier → Env
  slots l o = params ∷ lot_row l ∷ or_empty lot_carrier_row o ∷ []

  abbrev pub env : Lot → Env
  env l = slots l (get_by lot_carrier_key t.lot_carriers (pos l.id))

  of_lot : (l : Lot) → Covers db (left 25 on_lot end) (params ∷ lot_row l ∷ []) (env l ∷ [])
  of_lot l =
      covers_keyed db 25 lot_carrier_row lot_carrier_key t.lot_carriers it.lot_carriers.are it.lot_carriers.rise on_lot (params ∷ lot_row l ∷ []) (pos l.id)
      (λ c. last_term (at_ints false Eq (pos c.lot) (pos l.id)))

  covers : Covers db (inner 8 (left 25 on_lot end)) (params ∷ []) (map env t.lots)
  covers tests =
      covers_table db 8 lot_row t.lots it.lots.are (left 25 on_lot end) (params ∷ []) (λ l. env l ∷ []) of_lot tests
      ∙ ap (filter (λ e. list_all (holds e) tests)) (each_once env t.lots)

  shows_carrier : (l : Lot) (o : Option LotCarrier) → eval_all terms (slots l o) ≡ lot_columns (record l { carrier = option_map (λ c. c.carrier) o })
  shows_carrier l None = refl
  shows_carrier l (Some c) = refl

  abbrev Shows : Lot → Type 0
  Shows l = eval_all terms (env l) ≡ lot_columns l

  shows : AllByRecursion Shows t.lots
  shows =
      all_weaker (λ l. l.carrier ≡ carrier_of_lot t.lot_carriers l.id) Shows
      (λ l is. shows_carrier l (get_by lot_carrier_key t.lot_carriers (pos l.id)) ∙ ap (λ c. lot_columns (record l { carrier = c })) (sym is)) t.lots it.lots_carried

  module _ (p : Lot → Bool) (tests : (l : Lot) → list_all (holds (env l)) where_terms ≡ p l) (rows : List Row) (answer : IsAnswer (lots_query where_terms) db params rows) where
    shown : rows ≡ map lot_columns (filter p t.lots)
    shown =
        answer_covered (lots_query where_terms) db params env t.lots covers p tests refl refl (filter p t.lots) lot_columns (all-filter Shows p t.lots shows) (IsPermutation-same _ _ refl)
        (ascending-filter _ p t.lots (ascending_weaker _ _ (λ a b h. last_key (value_cmp-Int (lot_key a) (lot_key b)) ∙ Less-from_lt (lot_key a) (lot_key b) h) t.lots it.lots.rise)) rows answer

    pub finds_lot : (x : Option LotRow) → FirstZip (lot_reads 0) rows x → option_map lot_in x ≡ find p t.lots
    finds_lot x read = first_listed (lot_reads 0) lot_columns lot_in lot_same p t.lots x (subst (λ s. FirstZip (lot_reads 0) s x) shown read)

  pub readable_lots : All (lot_readable 0) (map lot_columns t.lots) → (rows : List Row) → IsAnswer (lots_query where_terms) db params rows → All (lot_readable 0) rows
  readable_lots all rows answer =
      let p = λ (l : Lot). list_all (holds (env l)) where_terms in
      subst (λ s. All (lot_readable 0) s) (sym (shown p (λ _. refl) rows answer)) (readable_left (lot_readable 0) lot_columns p t.lots all)
