-- What the statements on a table show and make, for any table whose rows are typed and stand in the order of a key.
use Rattle.std.proofs.Common.{◌≡◌, ◌<ℤ◌, ℕ, ℤ, Bool, true, false, cond, All, List, [], ◌∷◌, map, filter, find, reverse, take, slice_get, Option, Some, None, option_map, refl, sym, ap, ap₂, subst, ◌∙◌, map-id, IsPermutation}
use Rattle.std.specs.List.{AllByRecursion, AllZip, list_all}
use Rattle.sqlite.specs.declared.types.Value.TheVariants.{Int}
use Rattle.sqlite.specs.Order.{Row, column}
use Rattle.sqlite.specs.Term.{Term, holds, eval_all}
use Rattle.sqlite.specs.Query.{IsAnswer}
use Rattle.sqlite.specs.Program.{overlay}
use Rattle.sqlite.specs.Table.{Table}
use Rattle.sqlite.specs.Tree.{Trees}
use Rattle.sqlite.specs.State.{State}
use Rattle.sqlite_schema.specs.declared.schema.Constraint.TheVariants.{Datatype}
use Rattle.sqlite_schema.specs.Rules.{passes}
use Rattle.sqlite_trees.specs.declared.store.Shape.TheVariants as shape
use Rattle.sqlite_trees.specs.View.{IsShaped}
use Rattle.sqlite_value.specs.Order.{value_cmp}
use Rattle.sqlite_value.proofs.OrderLemmas.{value_cmp-Int}
use Rattle.sqlite_typed.proofs.AnswerLemmas.{at_end, last_table, answer_by_keys, unfiltered}
use Rattle.sqlite_typed.proofs.TestLemmas.{last_key}
use Rattle.sqlite_keyed.specs.Keyed.{IsKeyedBy}
use Rattle.sqlite_keyed.proofs.KeyedLemmas.{Less-from_lt}
use Rattle.sqlite_keyed.proofs.ListLemmas.{ascending_weaker, ascending-filter, IsPermutation-same}
use Rattle.std.proofs.lemmas.List.Sorted.{IsPermutation-reverse}
use Rattle.std.proofs.lemmas.List.Elements.{All-cons, All-head, All-tail, All-take}
use Rattle.std.proofs.lemmas.Map.Views.{All-map-IsPermutation}
use Rattle.goo_tables_rows.proofs.Joining.{answer_listed, ascending-reverse, first_left}
use Rattle.goo_tables_rows.specs.Asked.{FirstZip}
use Rattle.goo_tables_rows.specs.Columns.{registry_schema}
use Rattle.goo_tables_rows.specs.Met.{Keyed, whole, all_keyed, KeepsSome}
use Rattle.goo_tables_rows.specs.Rows.{Kept}
use Rattle.goo_tables_rows.specs.Stands.{Keeps}
use Rattle.goo_tables_rows.proofs.Meeting.{IsTyped, typed_rows, listed_met, kept_met}
use Rattle.goo_tables_rows.proofs.Ordered.{keyed_rows}
use Rattle.goo_tables_rows.proofs.Read.{all_read, first_read}
use Rattle.goo_tables_accounts.proofs.Queries.{in_order, first_in_order, last_of}

-- the rows that a query in the order of the rowids shows
module _ {Y : Type 0} (tree : ℕ) (row : Y → Row) (key : Y → ℤ) (keyed : (y : Y) → column (row y) 0 ≡ Int (key y)) (trees : Trees) (plain : overlay trees [] tree ≡ trees tree) (filter_by columns : List Term) (params : Row) (p : Y → Bool) (show : Y → Row)
    (tests : (y : Y) → list_all (holds (params ∷ row y ∷ [])) filter_by ≡ p y) (shows : (y : Y) → eval_all columns (params ∷ row y ∷ []) ≡ show y) where
  ordered : (ys : List Y) → trees tree ≡ map row ys → IsKeyedBy key ys → (rows : List Row) → IsAnswer (in_order tree filter_by columns) (overlay trees []) params rows → rows ≡ map show (filter p ys)
  ordered ys are rise rows answer =
      let db = overlay trees [] in
      let source = last_table db tree row key ys (plain ∙ are) rise (at_end db) in
      sym (map-id rows)
      ∙ answer_by_keys (in_order tree filter_by columns) db params source p tests (λ r. r) show shows refl refl (λ a b. last_key (ap₂ value_cmp (keyed a) (keyed b) ∙ value_cmp-Int (key a) (key b))) rows answer

-- the rows that a test leaves can be read, where all can
pub readable_left : {Y : Type 0} (readable : Row → Type 0) (show : Y → Row) (p : Y → Bool) (ys : List Y) → All readable (map show ys) → All readable (map show (filter p ys))
readable_left readable show p [] all = all
readable_left readable show p (y ∷ ys) all = go (p y) (readable_left readable show p ys (All-tail readable (show y) (map show ys) all))
  where
    go : (b : Bool) → All readable (map show (filter p ys)) → All readable (map show (cond b (y ∷ filter p ys) (filter p ys)))
    go true rest = All-cons readable (show y) (map show (filter p ys)) (All-head readable (show y) (map show ys) all) rest
    go false rest = rest

-- the first of them in the other order
pub readable_last : {Y : Type 0} (readable : Row → Type 0) (show : Y → Row) (ys : List Y) → All readable (map show ys) → All readable (map show (reverse ys))
readable_last readable show ys all = All-map-IsPermutation show readable ys (reverse ys) (IsPermutation-reverse ys) all

-- A table that keeps `Y`s, of whose rows as a query shows them `X`s are read; `of` is what such a value says of a `Y`.
pub record TableOf (X Y Z : Type 0) : Type 1 where
  pub table : Table
  pub row : Y → Row
  pub key : Y → ℤ
  pub keyed : (y : Y) → column (row y) 0 ≡ Int (key y)
  pub plain : (trees : Trees) → overlay trees [] table.tree ≡ trees table.tree
  pub columns : List Term
  pub show : Y → Row
  pub shows : (params : Row) (y : Y) → eval_all columns (params ∷ row y ∷ []) ≡ show y
  pub reads : Row → X → Type 0
  pub value : X → Z
  pub of : Y → Z
  pub same : (y : Y) (x : X) → reads (show y) x → value x ≡ of y

module _ {X Y Z : Type 0} (l : TableOf X Y Z) (old : State) {ys : List Y} (keeps : Keeps (old.now.trees l.table.tree) l.row l.key ys) where
  pub shown : (rows : List Row) → IsAnswer (in_order l.table.tree [] l.columns) (overlay old.now.trees []) [] rows → rows ≡ map l.show ys
  shown rows answer =
      ordered l.table.tree l.row l.key l.keyed old.now.trees (l.plain old.now.trees) [] l.columns [] (λ _. true) l.show (λ _. refl) (l.shows []) ys keeps.are keeps.rise rows answer ∙ ap (map l.show) (unfiltered ys refl)

  pub shows_each : (xs : List X) (rows : List Row) → IsAnswer (in_order l.table.tree [] l.columns) (overlay old.now.trees []) [] rows → AllZip l.reads rows xs → map l.value xs ≡ map l.of ys
  shows_each xs rows answer read = all_read l.reads l.show l.value l.of l.same ys xs (subst (λ s. AllZip l.reads s xs) (shown rows answer) read)

  pub finds_one : (filter_by : List Term) (params : Row) (p : Y → Bool) → ((y : Y) → list_all (holds (params ∷ l.row y ∷ [])) filter_by ≡ p y)
      → (x : Option X) (rows : List Row) → IsAnswer (in_order l.table.tree filter_by l.columns) (overlay old.now.trees []) params rows → FirstZip l.reads rows x → option_map l.value x ≡ option_map l.of (find p ys)
  finds_one filter_by params p tests x rows answer read =
      let shows = ordered l.table.tree l.row l.key l.keyed old.now.trees (l.plain old.now.trees) filter_by l.columns params p l.show tests (l.shows params) ys keeps.are keeps.rise rows answer in
      first_read l.reads l.show l.value l.of l.same p ys x (subst (λ s. FirstZip l.reads s x) shows read)

  -- what a query in the order of the rowids shows can be read, where the whole table can
  pub readable_among : (readable : Row → Type 0) → All readable (map l.show ys) → (filter_by : List Term) (params : Row) (rows : List Row)
      → IsAnswer (in_order l.table.tree filter_by l.columns) (overlay old.now.trees []) params rows → All readable rows
  readable_among readable all filter_by params rows answer =
      let p = λ (y : Y). list_all (holds (params ∷ l.row y ∷ [])) filter_by in
      let shows = ordered l.table.tree l.row l.key l.keyed old.now.trees (l.plain old.now.trees) filter_by l.columns params p l.show (λ _. refl) (l.shows params) ys keeps.are keeps.rise rows answer in
      subst (λ s. All readable s) (sym shows) (readable_left readable l.show p ys all)

top_read : {X Y Z : Type 0} (l : TableOf X Y Z) (ys : List Y) (o : Option X) → FirstZip l.reads (map l.show ys) o → option_map l.value o ≡ option_map l.of (slice_get ys 0)
top_read l [] None first = refl
top_read l [] (Some x) first = absurd first
top_read l (y ∷ ys) None first = absurd first
top_read l (y ∷ ys) (Some x) first = ap Some (l.same y x first)

-- the first row that passes
module _ {X Y Z : Type 0} (l : TableOf X Y Z) (old : State) {ys : List Y} (keeps : Keeps (old.now.trees l.table.tree) l.row l.key ys) (filter_by : List Term) (params : Row) where
  shown_first : (p : Y → Bool) → ((y : Y) → list_all (holds (params ∷ l.row y ∷ [])) filter_by ≡ p y)
      → (rows : List Row) → IsAnswer (first_in_order l.table.tree filter_by l.columns) (overlay old.now.trees []) params rows → rows ≡ take 1 (map l.show (filter p ys))
  shown_first p tests rows answer =
      let db = overlay old.now.trees [] in
      let source = last_table db l.table.tree l.row l.key ys (l.plain old.now.trees ∙ keeps.are) keeps.rise (at_end db) in
      let rises = ascending_weaker _ _ (λ a b h. last_key (ap₂ value_cmp (l.keyed a) (l.keyed b) ∙ value_cmp-Int (l.key a) (l.key b)) ∙ Less-from_lt (l.key a) (l.key b) h) _ (ascending-filter (λ a b. l.key a <ℤ l.key b) p ys keeps.rise) in
      answer_listed (first_in_order l.table.tree filter_by l.columns) db params source p tests l.show (l.shows params) refl refl (filter p ys) (IsPermutation-same _ _ refl) rises rows answer

  pub finds_first : (p : Y → Bool) → ((y : Y) → list_all (holds (params ∷ l.row y ∷ [])) filter_by ≡ p y)
      → (x : Option X) (rows : List Row) → IsAnswer (first_in_order l.table.tree filter_by l.columns) (overlay old.now.trees []) params rows → FirstZip l.reads rows x → option_map l.value x ≡ option_map l.of (find p ys)
  finds_first p tests x rows answer read = first_read l.reads l.show l.value l.of l.same p ys x (first_left l.reads _ x (subst (λ s. FirstZip l.reads s x) (shown_first p tests rows answer) read))

  pub readable_first : (readable : Row → Type 0) → All readable (map l.show ys) → (rows : List Row) → IsAnswer (first_in_order l.table.tree filter_by l.columns) (overlay old.now.trees []) params rows → All readable rows
  readable_first readable all rows answer =
      let p = λ (y : Y). list_all (holds (params ∷ l.row y ∷ [])) filter_by in
      subst (λ s. All readable s) (sym (shown_first p (λ _. refl) rows answer)) (All-take readable 1 (map l.show (filter p ys)) (readable_left readable l.show p ys all))

-- the row with the highest rowid
module _ {X Y Z : Type 0} (l : TableOf X Y Z) (old : State) {ys : List Y} (keeps : Keeps (old.now.trees l.table.tree) l.row l.key ys) where
  shown_top : (rows : List Row) → IsAnswer (last_of l.table.tree l.columns) (overlay old.now.trees []) [] rows → rows ≡ take 1 (map l.show (reverse ys))
  shown_top rows answer =
      let db = overlay old.now.trees [] in
      let source = last_table db l.table.tree l.row l.key ys (l.plain old.now.trees ∙ keeps.are) keeps.rise (at_end db) in
      let falls = ascending_weaker _ _ (λ a b h. last_key (ap₂ value_cmp (l.keyed b) (l.keyed a) ∙ value_cmp-Int (l.key b) (l.key a)) ∙ Less-from_lt (l.key b) (l.key a) h) _ (ascending-reverse (λ a b. l.key a <ℤ l.key b) ys keeps.rise) in
      let all = subst (λ s. IsPermutation s (reverse ys)) (sym (unfiltered ys refl)) (IsPermutation-reverse ys) in
      answer_listed (last_of l.table.tree l.columns) db [] source (λ _. true) (λ _. refl) l.show (l.shows []) refl refl (reverse ys) all falls rows answer

  pub shows_top : (x : Option X) (rows : List Row) → IsAnswer (last_of l.table.tree l.columns) (overlay old.now.trees []) [] rows → FirstZip l.reads rows x
      → option_map l.value x ≡ option_map l.of (slice_get (reverse ys) 0)
  shows_top x rows answer read = top_read l (reverse ys) x (first_left l.reads _ x (subst (λ s. FirstZip l.reads s x) (shown_top rows answer) read))

  pub readable_top : (readable : Row → Type 0) → All readable (map l.show ys) → (rows : List Row) → IsAnswer (last_of l.table.tree l.columns) (overlay old.now.trees []) [] rows → All readable rows
  readable_top readable all rows answer = subst (λ s. All readable s) (sym (shown_top rows answer)) (All-take readable 1 (map l.show (reverse ys)) (readable_last readable l.show ys all))

-- ---- a table that is met as it is

-- what a query shows of a row, whatever that is
abbrev pub shown_of : {X Y Z : Type 0} → TableOf X Y Z → Keyed → Row
shown_of l k = eval_all l.columns ([] ∷ whole k ∷ [])

-- a stored row that shows a value is the row of that value
abbrev pub IsListed : {X Y : Type 0} → TableOf X Y Y → Type 0
IsListed {X} l = (k : Keyed) (x : X) → IsTyped l.table.key l.table.columns k → l.reads (shown_of l k) x → (whole k ≡ l.row (l.value x)) × (k.0 ≡ l.key (l.value x))

abbrev pub IsKept : {X Y : Type 0} → TableOf X (Kept Y) Y → Type 0
IsKept {X} l = (k : Keyed) (x : X) → IsTyped l.table.key l.table.columns k → l.reads (shown_of l k) x → whole k ≡ l.row (k.0, l.value x)

abbrev HasTypes : Table → State → Type 0
HasTypes table old = AllByRecursion (λ row. passes Datatype registry_schema old.now.trees table row ≡ true) (old.now.trees table.tree)

pub met : {X Y Z : Type 0} (l : TableOf X Y Z) (old : State) → IsShaped shape.Table (old.now.trees l.table.tree) → (xs : List X) (rows : List Row) → IsAnswer (in_order l.table.tree [] l.columns) (overlay old.now.trees []) [] rows
    → AllZip l.reads rows xs → AllZip l.reads (map (shown_of l) (all_keyed old.now l.table.tree)) xs
met l old shaped xs rows answer read =
    let keys = all_keyed old.now l.table.tree in
    let stored = keyed_rows (old.now.trees l.table.tree) shaped in
    let all = ordered l.table.tree whole (λ k. k.0) (λ _. refl) old.now.trees (l.plain old.now.trees) [] l.columns [] (λ _. true) (shown_of l) (λ _. refl) (λ _. refl) keys stored.0 stored.1 rows answer in
    subst (λ s. AllZip l.reads s xs) (all ∙ ap (map (shown_of l)) (unfiltered keys refl)) read

module _ {X Y : Type 0} (l : TableOf X Y Y) (old : State) (shaped : IsShaped shape.Table (old.now.trees l.table.tree)) (typed : HasTypes l.table old) (is : IsListed l) where
  pub meets_listed : (xs : List X) (rows : List Row) → IsAnswer (in_order l.table.tree [] l.columns) (overlay old.now.trees []) [] rows → AllZip l.reads rows xs → Keeps (old.now.trees l.table.tree) l.row l.key (map l.value xs)
  meets_listed xs rows answer read =
      let stored = keyed_rows (old.now.trees l.table.tree) shaped in
      listed_met l.value l.reads (shown_of l) (IsTyped l.table.key l.table.columns) (old.now.trees l.table.tree) (all_keyed old.now l.table.tree) xs stored.0 stored.1 (typed_rows l.table old.now typed) (met l old shaped xs rows answer read) l.key l.row is

module _ {X Y : Type 0} (l : TableOf X (Kept Y) Y) (old : State) (shaped : IsShaped shape.Table (old.now.trees l.table.tree)) (typed : HasTypes l.table old) (is : IsKept l) where
  pub meets_kept : (xs : List X) (rows : List Row) → IsAnswer (in_order l.table.tree [] l.columns) (overlay old.now.trees []) [] rows → AllZip l.reads rows xs → KeepsSome (old.now.trees l.table.tree) l.row (map l.value xs)
  meets_kept xs rows answer read =
      let stored = keyed_rows (old.now.trees l.table.tree) shaped in
      kept_met l.value l.reads (shown_of l) (IsTyped l.table.key l.table.columns) (old.now.trees l.table.tree) (all_keyed old.now l.table.tree) xs stored.0 stored.1 (typed_rows l.table old.now typed) (met l old shaped xs rows answer read) l.row is
