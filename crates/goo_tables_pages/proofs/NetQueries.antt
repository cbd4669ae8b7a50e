-- What the statement on the energy of declarations shows.
use Rattle.std.proofs.Common.{◌≡◌, ◌≤◌, ◌<◌, ℕ, zero, suc, ℤ, Bool, true, pos, negsuc, List, [], ◌∷◌, map, filter, codes, false, None, refl, sym, ap, subst, ◌∙◌, take, All, int_lt, nat_le, arith}
use Rattle.std.specs.List.{AllZip, list_all}
use Rattle.std.proofs.lemmas.Bool.{le-leb, lt-leb, lt-ltb, le-ltb, leb-true, leb-false}
use Rattle.std.proofs.lemmas.List.{take-map}
use Rattle.std.proofs.lemmas.List.Elements.{All-take}
use Rattle.sqlite_tied.specs.Compute.{everything}
use Rattle.sqlite.specs.declared.types.Value.TheVariants.{Int, Text}
use Rattle.sqlite.specs.Collation.TheVariants.{Binary}
use Rattle.sqlite.specs.Order.{Row}
use Rattle.sqlite.specs.Term.{Term, lit, col, op2, holds}
use Rattle.sqlite.specs.Query.{Query, IsAnswer}
use Rattle.sqlite.specs.Program.{overlay}
use Rattle.sqlite.specs.Listing.{understood}
use Rattle.sqlite.specs.State.{State}
use Rattle.sqlite.specs.Tree.{Trees}
use Rattle.sqlite_sql.specs.declared.ops.BinaryOp.TheVariants.{Compare}
use Rattle.sqlite_sql.specs.declared.ops.CompareOp.TheVariants.{Gt}
use Rattle.sqlite_value.proofs.OrderLemmas.{value_cmp-Int}
use Rattle.sqlite_keyed.proofs.KeyedLemmas.{Less-from_lt}
use Rattle.sqlite_keyed.proofs.ListLemmas.{ascending_weaker, ascending-filter, IsPermutation-same}
use Rattle.sqlite_typed.proofs.AnswerLemmas.{at_end, last_table}
use Rattle.sqlite_typed.proofs.TestLemmas.{at_ints, last_term, last_key}
use Rattle.goo_tables_pages.specs.NetRows.{before, net_columns, net_in, net_part, net_readable, net_reads}
use Rattle.goo_tables_pages.specs.declared.net.NetRow.{NetRow}
use Rattle.goo_tables_rows.specs.Rows.{Tables, Declaration, declaration_row, declaration_key}
use Rattle.goo_tables_rows.specs.Stands.{Stands}
use Rattle.goo_tables_rows.proofs.Joining.{answer_listed}
use Rattle.goo_tables_rows.proofs.Read.{all_read}
use Rattle.goo_tables_accounts.proofs.AnyTable.{readable_left}
use Rattle.goo_tables_accounts.proofs.Asking.{Asks, Says}
use Rattle.goo_tables_accounts.proofs.Queries.{in_order}

abbrev page_text : List ℕ
page_text = codes "SELECT id, device, gross, aux FROM declaration WHERE id > ?1 ORDER BY id LIMIT 256"

abbrev page_where : List Term
page_where = op2 (Compare Gt Binary) (col 1 0) (col 0 0) ∷ []

abbrev pub page_query : Query
page_query = record (in_order 6 page_where (col 1 0 ∷ col 1 2 ∷ col 1 5 ∷ col 1 6 ∷ [])) { limit = lit (Int (pos 256)) }

pub page_asks : Asks page_text page_query (λ (a : ℤ). Int a ∷ [])
unfolding understood everything
page_asks = record { names = _; is = refl; plain = (refl, refl); unlisted = refl; suits = λ _. refl }

-- as it is shown
abbrev shown : Declaration → Row
shown d = net_columns (net_part d)

int_is : {a b : ℤ} → Int a ≡ Int b → b ≡ a
int_is same = cc

number_is : {a b : ℕ} → Int (pos a) ≡ Int (pos b) → b ≡ a
number_is same = cc

text_is : {a b : List ℕ} → Text a ≡ Text b → b ≡ a
text_is same = cc

same : (d : Declaration) (x : NetRow) → net_reads (shown d) x → net_in x ≡ net_part d
same d x reads = λ i. record { id = int_is reads.0 i; device = text_is reads.1 i; gross = number_is reads.2 i; aux = number_is reads.3 i }

-- above the number before one is that one or above it
above_before : (low n : ℕ) → int_lt (before low) (pos n) ≡ nat_le low n
above_before zero n = sym (le-leb 0 n (omega arith))
above_before (suc low) n = refl

module _ (params : Row) (old : State) (t : Tables) (it : Stands old.now t) where
  abbrev db : Trees
  db = overlay old.now.trees []

  shows_page : (q : Declaration → Bool) → ((d : Declaration) → list_all (holds (params ∷ declaration_row d ∷ [])) page_where ≡ q d)
      → (rows : List Row) → IsAnswer page_query db params rows → rows ≡ take 256 (map shown (filter q t.declarations))
  shows_page q tests rows =
      let source = last_table db 6 declaration_row declaration_key t.declarations it.declarations.are it.declarations.rise (at_end db) in
      answer_listed page_query db params source q tests shown (λ _. refl) refl refl (filter q t.declarations) (IsPermutation-same _ _ refl)
      (ascending_weaker _ _ (λ a b h. last_key (value_cmp-Int (declaration_key a) (declaration_key b)) ∙ Less-from_lt (declaration_key a) (declaration_key b) h) _ (ascending-filter _ q t.declarations it.declarations.rise)) rows

  -- what is shown can be read, where the whole table can
  pub readable_page : All net_readable (map shown t.declarations) → (rows : List Row) → IsAnswer page_query db params rows → All net_readable rows
  readable_page all rows answer =
      let passes = λ (d : Declaration). list_all (holds (params ∷ declaration_row d ∷ [])) page_where in
      subst (λ s. All net_readable s) (sym (shows_page passes (λ _. refl) rows answer))
      (All-take net_readable 256 (map shown (filter passes t.declarations)) (readable_left net_readable shown passes t.declarations all))

pub page_shows : (old : State) (low : ℕ) → Says old page_query (Int (before low) ∷ []) (λ (xs : List NetRow) rows. AllZip net_reads rows xs)
    (λ t xs. map net_in xs ≡ map net_part (take 256 (filter (λ (d : Declaration). nat_le low d.id) t.declarations)))
page_shows old low t it xs rows answer read =
    let q = λ (d : Declaration). nat_le low d.id in
    let is = shows_page (Int (before low) ∷ []) old t it q (λ d. last_term (at_ints false Gt (pos d.id) (before low)) ∙ above_before low d.id) rows answer in
    all_read net_reads shown net_in net_part same (take 256 (filter q t.declarations)) xs (subst (λ l. AllZip net_reads l xs) (is ∙ take-map shown 256 (filter q t.declarations)) read)
