-- A CREATE of our tables fails only by a fault.
use Rattle.std.proofs.Common.{◌≡◌, inl, inr, ℕ, zero, suc, ◌+◌, ◌*◌, ◌^◌, ◌<◌, nat_lt, ◌&&◌, ◌||◌, not, Bool, true, false, arith, List, [], ◌∷◌, length, get_or, slice_get, codes, Option, Some, None, is_some, Ok, Err, refl, sym, ap, ap₂, subst, subst₂, ◌∙◌, true≢false, append-nil, IsUtf8, All}
use Rattle.std.specs.List.{list_all}
use Rattle.std.proofs.lemmas.Str.{IsUtf8-from_ascii}
use Rattle.std.proofs.lemmas.Str.Ascii.{IsAscii-from_all}
use Rattle.std.proofs.lemmas.List.Elements.{All-nil, All-cons}
use Rattle.std.proofs.lemmas.Bool.{and_parts, ltb-true}
use Rattle.sqlite.specs.declared.types.Value.TheVariants.{Text}
use Rattle.sqlite.specs.declared.error.Error.{Error}
use Rattle.sqlite_catalog.specs.declared.error.Refusal.{Refusal}
use Rattle.sqlite_catalog.specs.declared.error.Refusal.TheVariants.{Invalid, NameTaken, BadName, TooBig, BadKey, BadText, Violates}
use Rattle.sqlite_catalog.specs.Calls.{RefusesTable, IsLongTable, RefusesIndex, IsLongIndex}
use Rattle.sqlite_trees.specs.declared.error.StoreError.TheVariants.{OutOfMemory, Io, Corrupt, Full, Broken, Unstorable}
use Rattle.sqlite_schema.specs.Rules.{passes, table_reals, index_reals}
use Rattle.sqlite_schema.specs.declared.schema.Constraint.TheVariants.{Unique}
use Rattle.std.specs.List.{AllByRecursion}
use Rattle.goo_tables.specs.Created.{IsMade, begun_schema, create_texts, stages}
use Rattle.sqlite_tied.specs.Compute.{everything}
use Rattle.sqlite_trees.specs.Sound.{fits_kind, is_free_name, begins, same_name}
use Rattle.sqlite_value.specs.Order.{value_cmp}
use Rattle.sqlite_keyed.proofs.ListLemmas.{all-slice_get}
use Rattle.goo_tables_rows.specs.Columns.{meta, holder, account, device, declaration, lot, piece, peer, receipt, cancellation, withdrawal, notice_out, notice_in, correction, device_carrier, lot_carrier, index_on, no_schema}
use Rattle.sqlite_catalog.specs.Change.{is_used, is_reserved, automatics, created, indexed}
use Rattle.sqlite_catalog.specs.Listing.{is_formed, is_fit}
use Rattle.sqlite_rules.specs.Lists.{Has}
use Rattle.sqlite_schema.specs.declared.schema.Index.{Index}
use Rattle.sqlite.specs.Table.{Table}
use Rattle.sqlite.specs.Schema.{Schema}
use Rattle.sqlite.specs.Change.{next_tree}
use Rattle.sqlite.specs.Compile.{table_defined_by, index_defined_by}
use Rattle.sqlite.specs.Command.{Command}
use Rattle.sqlite.specs.Command.TheVariants.{CreateTable, CreateIndex, Begin, Commit, Rollback, Release, RollbackTo}
use Rattle.sqlite.specs.Does.{Does, Defines, MakesTable, MakesIndex, Redefines, lacks_sequence, AtPlace}
use Rattle.sqlite.specs.Effect.{is_query}
use Rattle.sqlite.specs.Tree.{Trees}
use Rattle.sqlite.specs.State.{State, mode_of, ExecutesInside, ExecutesIn, EndsScope, Fails, IsMisplaced, IsNotRun, Escapes, RunsCommand, text_of, shows_rows, is_pragma}
use Rattle.sqlite.specs.Listing.{understood}
use Rattle.sqlite.proofs.Callers.{IsPlain, command_of, statement_of}
use Rattle.sqlite_resolve.specs.declared.compiled.Compiled.{Compiled}
use Rattle.goo_tables_rows.specs.Refused.{IsFault, is_whole}
use Rattle.goo_tables_rows.proofs.Refusing.{fault_of, runs_on}

-- a text of ASCII alone
abbrev pub is_plain_text : List ℕ → Bool
is_plain_text bs = list_all (λ b. nat_lt b 128) bs

all_low : (bs : List ℕ) → is_plain_text bs ≡ true → All (λ b. b < 128) bs
all_low [] h = All-nil (λ b. b < 128)
all_low (b ∷ bs) h = let both = and_parts (nat_lt b 128) (is_plain_text bs) h in All-cons (λ b. b < 128) b bs (ltb-true b 128 both.0) (all_low bs both.1)

plain_utf8 : (bs : List ℕ) → is_plain_text bs ≡ true → IsUtf8 bs
plain_utf8 bs h = IsUtf8-from_ascii bs (IsAscii-from_all bs (all_low bs h))

-- a table that nothing stops from being made by its text
pub record IsMakeable (schema : Schema) (sql : List ℕ) (table : Table) : Type 0 where
  pub free : is_used schema table.name ≡ false
  pub free_indexes : list_all (λ (i : Index). not (is_used schema i.name)) (automatics table 0 0 table.uniques) ≡ true
  pub utf8 : is_plain_text table.name ≡ true
  pub plain_name : is_reserved table.name ≡ false
  pub few : nat_lt (next_tree schema + length table.uniques) 65536 ≡ true
  pub reals : nat_lt (table_reals table) (2 ^ 64) ≡ true
  pub index_reals_fit : list_all (λ key. nat_lt (index_reals (table_reals table) key) (2 ^ 64)) table.uniques ≡ true
  pub formed : is_formed table ≡ true
  pub fit : is_fit (Text (codes "table")) (Text table.name) (Text table.name) (Text sql) ≡ true
  pub short : nat_lt (2 * length table.name + length sql + 200) (10 ^ 9) ≡ true

-- each element passes
each : {X : Type 0} (p : X → Bool) (xs : List X) (x : X) → list_all p xs ≡ true → Has xs x → p x ≡ true
each p [] x all none = absurd none
each p (y ∷ ys) x all (inl same) = subst (λ z. p z ≡ true) (sym same) (and_parts (p y) (list_all p ys) all).0
each p (y ∷ ys) x all (inr more) = each p ys x (and_parts (p y) (list_all p ys) all).1 more

taken : (b : Bool) → not b ≡ true → b ≡ true → ⊥
taken true free used = absurd cc
taken false free used = absurd cc

module _ (schema : Schema) (sql : List ℕ) (table : Table) (defined : table_defined_by sql ≡ Ok table) (it : IsMakeable schema sql table) where
  one_table : (t : Table) → table_defined_by sql ≡ Ok t → table ≡ t
  one_table t other = let both : Ok table ≡ Ok t = sym defined ∙ other in cc

  not_refused : (why : Refusal) → RefusesTable schema sql why → ⊥
  not_refused (Invalid e) bad = let both : Ok table ≡ Err e = sym defined ∙ bad in absurd cc
  not_refused NameTaken (t, other, inl used) = true≢false (sym used ∙ subst (λ (u : Table). is_used schema u.name ≡ false) (one_table t other) it.free)
  not_refused NameTaken (t, other, inr (i, has, used)) =
      taken (is_used schema i.name) (each (λ (k : Index). not (is_used schema k.name)) (automatics t 0 0 t.uniques) i (subst (λ (u : Table). list_all (λ (k : Index). not (is_used schema k.name)) (automatics u 0 0 u.uniques) ≡ true) (one_table t other) it.free_indexes) has) used
  not_refused BadName (t, other, inl bad) = bad (subst (λ (u : Table). IsUtf8 u.name) (one_table t other) (plain_utf8 table.name it.utf8))
  not_refused BadName (t, other, inr (reserved, own)) = true≢false (sym reserved ∙ subst (λ (u : Table). is_reserved u.name ≡ false) (one_table t other) it.plain_name)
  not_refused TooBig (t, other, inl many) = let few = ltb-true _ _ (subst (λ (u : Table). nat_lt (next_tree schema + length u.uniques) 65536 ≡ true) (one_table t other) it.few) in omega (arith, few, many)
  not_refused TooBig (t, other, inr (inl big)) = let low = ltb-true _ _ (subst (λ (u : Table). nat_lt (table_reals u) (2 ^ 64) ≡ true) (one_table t other) it.reals) in omega (arith, low, big)
  not_refused TooBig (t, other, inr (inr (key, has, big))) =
      let low = ltb-true _ _ (each (λ k. nat_lt (index_reals (table_reals t) k) (2 ^ 64)) t.uniques key (subst (λ (u : Table). list_all (λ k. nat_lt (index_reals (table_reals u) k) (2 ^ 64)) u.uniques ≡ true) (one_table t other) it.index_reals_fit) has) in
      omega (arith, low, big)
  not_refused BadKey (t, other, bad) = true≢false (sym (subst (λ (u : Table). is_formed u ≡ true) (one_table t other) it.formed) ∙ bad)
  not_refused BadText (t, other, bad) = true≢false (sym (subst (λ (u : Table). is_fit (Text (codes "table")) (Text u.name) (Text u.name) (Text sql) ≡ true) (one_table t other) it.fit) ∙ bad)
  not_refused (Violates rule) bad = bad

  not_long : IsLongTable sql → ⊥
  not_long (t, other, long) = let low = ltb-true _ _ (subst (λ (u : Table). nat_lt (2 * length u.name + length sql + 200) (10 ^ 9) ≡ true) (one_table t other) it.short) in omega (arith, low, long)

  module _ (schema_used : lacks_sequence schema ≡ false) where
    -- making it never stops
    made_so : (text : List ℕ) → text ≡ sql → IsUtf8 sql → (trees : Trees) (stop : Option Error) → MakesTable text (record { schema = schema; trees = trees }) (Err stop) → ⊥
    made_so text same utf8 trees None long = not_long (subst IsLongTable same long)
    made_so text same utf8 trees (Some e) (inl (bad, is)) = bad (subst IsUtf8 (sym same) utf8)
    made_so text same utf8 trees (Some e) (inr (why, refuses, is)) = not_refused why (subst (λ t. RefusesTable schema t why) same refuses)

    made_then : (text : List ℕ) → text ≡ sql → IsUtf8 sql → (next : Schema) → created schema table ≡ next → lacks_sequence next ≡ false → (limit : Option ℕ) (mode : _) (trees : Trees) (stop : Option Error)
        → Redefines limit mode [] (record { schema = schema; trees = trees }) text CreateTable (Err stop) → ⊥
    made_then text same utf8 next makes uncounted limit mode trees stop (inl (s, inl (s2, bad, eq2), eq)) = made_so text same utf8 trees s2 bad
    made_then text same utf8 next makes uncounted limit mode trees stop (inl (s, inr (after, made, seq), eq)) =
        let is_next : after.schema ≡ next = made.is ∙ ap (created schema) (sym (one_table made.table (subst (λ t. table_defined_by t ≡ Ok made.table) same made.defined))) ∙ makes in
        let bare : lacks_sequence after.schema ≡ false = ap lacks_sequence is_next ∙ uncounted in
        absurd (let given = rw bare at seq in cc)
    made_then text same utf8 next makes uncounted limit mode trees stop (inr (after, made, gives)) = absurd cc

-- an index that nothing stops from being made by its text
pub record IsIndexable (schema : Schema) (sql : List ℕ) (table : Table) (index : Index) : Type 0 where
  pub free : is_used schema index.name ≡ false
  pub utf8 : is_plain_text index.name ≡ true
  pub plain_name : is_reserved index.name ≡ false
  pub table_utf8 : is_plain_text table.name ≡ true
  pub few : nat_lt (next_tree schema) 65536 ≡ true
  pub reals : nat_lt (table_reals table) (2 ^ 64) ≡ true
  pub index_reals_fit : nat_lt (index_reals (table_reals table) index.columns) (2 ^ 64) ≡ true
  pub fit : is_fit (Text (codes "index")) (Text index.name) (Text table.name) (Text sql) ≡ true
  pub short : nat_lt (length index.name + length table.name + length sql + 200) (10 ^ 9) ≡ true

-- tables without a row keep any rule
bare_keeps : (schema : Schema) (db : Trees) (tables : List Table) → AllByRecursion (λ (t : Table). db t.tree ≡ []) tables → AllByRecursion (λ t. AllByRecursion (λ row. passes Unique schema db t row ≡ true) (db t.tree)) tables
bare_keeps schema db [] bare = tt
bare_keeps schema db (t ∷ ts) bare = (subst (λ rows. AllByRecursion (λ row. passes Unique schema db t row ≡ true) rows) (sym bare.0) tt, bare_keeps schema db ts bare.1)

module _ (schema : Schema) (sql : List ℕ) (table : Table) (index : Index) (defined : index_defined_by table sql ≡ Ok index) (it : IsIndexable schema sql table index) (db : Trees) (bare : AllByRecursion (λ (t : Table). db t.tree ≡ []) schema.tables)
    (here : db table.tree ≡ []) where
  one_index : (i : Index) → index_defined_by table sql ≡ Ok i → index ≡ i
  one_index i other = let both : Ok index ≡ Ok i = sym defined ∙ other in cc

  index_not_refused : (why : Refusal) → RefusesIndex schema db table sql why → ⊥
  index_not_refused (Invalid e) bad = let both : Ok index ≡ Err e = sym defined ∙ bad in absurd cc
  index_not_refused NameTaken (i, other, used) = true≢false (sym used ∙ subst (λ (u : Index). is_used schema u.name ≡ false) (one_index i other) it.free)
  index_not_refused BadName (i, other, inl (inl bad)) = bad (subst (λ (u : Index). IsUtf8 u.name) (one_index i other) (plain_utf8 index.name it.utf8))
  index_not_refused BadName (i, other, inl (inr (reserved, own))) = true≢false (sym reserved ∙ subst (λ (u : Index). is_reserved u.name ≡ false) (one_index i other) it.plain_name)
  index_not_refused BadName (i, other, inr bad) = bad (plain_utf8 table.name it.table_utf8)
  index_not_refused TooBig (i, other, inl many) = let few = ltb-true _ _ it.few in omega (arith, few, many)
  index_not_refused TooBig (i, other, inr (inl big)) = let low = ltb-true _ _ it.reals in omega (arith, low, big)
  index_not_refused TooBig (i, other, inr (inr big)) = let low = ltb-true _ _ (subst (λ (u : Index). nat_lt (index_reals (table_reals table) u.columns) (2 ^ 64) ≡ true) (one_index i other) it.index_reals_fit) in omega (arith, low, big)
  index_not_refused BadKey bad = bad
  index_not_refused BadText (i, other, bad) = true≢false (sym (subst (λ (u : Index). is_fit (Text (codes "index")) (Text u.name) (Text table.name) (Text sql) ≡ true) (one_index i other) it.fit) ∙ bad)
  index_not_refused (Violates rule) (i, other, unique, breaks) = breaks (bare_keeps (indexed schema table i) db schema.tables bare)

  index_not_long : IsLongIndex db table sql → ⊥
  index_not_long (i, other, inl long) = let low = ltb-true _ _ (subst (λ (u : Index). nat_lt (length u.name + length table.name + length sql + 200) (10 ^ 9) ≡ true) (one_index i other) it.short) in omega (arith, low, long)
  index_not_long (i, other, inr (row, has, big)) = subst (λ rows. Has rows row) here has

  index_made_then : (text : List ℕ) → text ≡ sql → IsUtf8 sql → (mode : _) (stop : Option Error) → Defines mode (MakesIndex text (record { schema = schema; trees = db }) table) (Err stop) → ⊥
  index_made_then text same utf8 mode stop (inl (None, bad, eq)) = index_not_long (subst (IsLongIndex db table) same bad)
  index_made_then text same utf8 mode stop (inl (Some e, inl (bad, is), eq)) = bad (subst IsUtf8 (sym same) utf8)
  index_made_then text same utf8 mode stop (inl (Some e, inr (why, refuses, is), eq)) = index_not_refused why (subst (λ t. RefusesIndex schema db table t why) same refuses)
  index_made_then text same utf8 mode stop (inr (after, made, gives)) = absurd cc

-- ---- what a CREATE answers, if not a count

abbrev pub defines : Command → Bool
defines CreateTable = true
defines (CreateIndex at) = true
defines _ = false

shows_nothing : (command : Command) → defines command ≡ true → (is_query command || (true && (is_pragma command || false))) ≡ false
shows_nothing CreateTable h = refl
shows_nothing (CreateIndex at) h = refl
shows_nothing _ h = absurd (let e = h in cc)

only_faults : (old new : State) (Big : Type 0) (e : Error) → (Big → ⊥) → Fails old new Big e → IsFault old new e
only_faults old new Big e none (OutOfMemory, is, cause, undone, told) = fault_of old new e (OutOfMemory, is, cause, undone, told)
only_faults old new Big e none (Io, is, cause, undone, told) = fault_of old new e (Io, is, cause, undone, told)
only_faults old new Big e none (Corrupt, is, cause, undone, told) = fault_of old new e (Corrupt, is, cause, undone, told)
only_faults old new Big e none (Full, is, cause, undone, told) = fault_of old new e (Full, is, cause, undone, told)
only_faults old new Big e none (Broken, is, cause, undone, told) = fault_of old new e (Broken, is, cause, undone, told)
only_faults old new Big e none (Unstorable, is, cause, undone, told) = absurd (none cause)

module _ (schema : Schema) (sql : List ℕ) (old new : State) (has : old.now.schema ≡ schema) (plain : IsPlain (understood schema sql)) (whole : is_whole (length sql) 0 (understood schema sql) ≡ true)
    (command : Command) (is_command : command_of (understood schema sql) ≡ command) (is_definition : defines command ≡ true) (text : statement_of sql (understood schema sql) ≡ sql)
    (stops : (t : List ℕ) → t ≡ sql → (stop : Option Error) → Does old.step_limit (mode_of old) [] (record old.now { schema = schema }) t None command (Err stop) → ⊥) where
  never : (other : Command) → defines other ≡ false → (c : Command) → c ≡ command → ¬ (c ≡ other)
  never other not_one c same it = let bad : true ≡ false = sym is_definition ∙ ap defines (sym same ∙ it) ∙ not_one in cc

  within : (c : Command) → c ≡ command → ¬ Escapes 0 old c
  within c same (inl (inl it)) = never Commit refl c same it
  within c same (inl (inr it)) = never Rollback refl c same it
  within c same (inr (name, inl it, held)) = never (Release name) refl c same it
  within c same (inr (name, inr it, held)) = never (RollbackTo name) refl c same it

  placed : (c : Command) → c ≡ command → (e : Error) → ¬ IsMisplaced old c e
  placed c same e (inl (is, inl (it, inside))) = never Begin refl c same it
  placed c same e (inl (is, inr (inl it, outside))) = never Commit refl c same it
  placed c same e (inl (is, inr (inr it, outside))) = never Rollback refl c same it
  placed c same e (inr (is, name, inl it, unnamed)) = never (Release name) refl c same it
  placed c same e (inr (is, name, inr it, unnamed)) = never (RollbackTo name) refl c same it

  does : (t : List ℕ) → t ≡ sql → (stop : Option Error) → Does old.step_limit (mode_of old) [] old.now t None command (Err stop) → ⊥
  does t same stop h = stops t same stop (subst (λ s. Does old.step_limit (mode_of old) [] (record old.now { schema = s }) t None command (Err stop)) has h)

  ended : (c : Compiled) → c.command ≡ command → c.returning ≡ None → text_of sql c ≡ sql → (e : Error) → RunsCommand old new sql c [] (Err e) → IsFault old new e
  ended c same none is e (inl (inl misplaced, kept)) = absurd (placed c.command same e misplaced)
  ended c same none is e (inl (inr (may, h), kept)) = absurd (does (text_of sql c) is (Some e) (subst₂ (λ r k. Does old.step_limit (mode_of old) [] old.now (text_of sql c) r k (Err (Some e))) none same h))
  ended c same none is e (inr fails) = only_faults old new _ e (λ big. does (text_of sql c) is None (subst₂ (λ r k. Does old.step_limit (mode_of old) [] old.now (text_of sql c) r k (Err None)) none same big)) fails

  pub fails_so : (e : Error) → ExecutesInside 0 sql [] old new (Err e) → IsFault old new e
  unfolding ExecutesIn EndsScope IsNotRun
  fails_so e (inr ((c, it, escapes), is, kept)) = absurd (within c.command (ap command_of (sym it.is ∙ ap (λ s. understood s sql) has) ∙ is_command) escapes)
  fails_so e (inl (inl (inl none), kept)) = absurd (runs_on schema sql [] old e has whole plain none.0)
  fails_so e (inl (inl (inr fails), kept)) = fault_of old new e fails
  fails_so e (inl (inr (c, it, ran), kept)) =
      let known = sym it.is ∙ ap (λ s. understood s sql) has in
      let bare = subst IsPlain (sym known) plain in
      let same = ap command_of known ∙ is_command in
      let hidden : shows_rows false c ≡ false = ap₂ (λ k r. is_query k || (true && (is_pragma k || is_some r))) same bare.0 ∙ shows_nothing command is_definition in
      ended c same bare.0 (ap (statement_of sql) known ∙ text) e (rw (hidden, bare.1, append-nil []) at ran)

-- a text that fails only by a fault where the schema has the tables before it
abbrev pub FailsByFault : List ℕ → Schema → Type 1
FailsByFault sql schema = (old new : State) (e : Error) → IsMade schema old.now → ExecutesInside 0 sql [] old new (Err e) → IsFault old new e

-- whatever rows the tables have
abbrev pub FailsOnRows : List ℕ → Schema → Type 1
FailsOnRows sql schema = (old new : State) (e : Error) → old.now.schema ≡ schema → ExecutesInside 0 sql [] old new (Err e) → IsFault old new e

pub table_fails : (schema next : Schema) (sql : List ℕ) (table : Table) → command_of (understood schema sql) ≡ CreateTable → IsPlain (understood schema sql) → statement_of sql (understood schema sql) ≡ sql
    → is_whole (length sql) 0 (understood schema sql) ≡ true → table_defined_by sql ≡ Ok table → IsMakeable schema sql table → created schema table ≡ next → lacks_sequence schema ≡ false → lacks_sequence next ≡ false → is_plain_text sql ≡ true → FailsOnRows sql schema
table_fails schema next sql table is plain text whole defined it makes bare uncounted utf8 old new e has =
    fails_so schema sql old new has plain whole CreateTable is refl text
    (λ t same stop h. made_then schema sql table defined it bare t same (plain_utf8 sql utf8) next makes uncounted old.step_limit (mode_of old) old.now.trees stop h) e

pub index_fails : (schema : Schema) (sql : List ℕ) (at : ℕ) (table : Table) (index : Index) → slice_get schema.tables at ≡ Some table → command_of (understood schema sql) ≡ CreateIndex at → IsPlain (understood schema sql)
    → statement_of sql (understood schema sql) ≡ sql → is_whole (length sql) 0 (understood schema sql) ≡ true → index_defined_by table sql ≡ Ok index → IsIndexable schema sql table index → is_plain_text sql ≡ true → FailsByFault sql schema
index_fails schema sql at table index there is plain text whole defined it utf8 old new e made =
    fails_so schema sql old new made.schema_is plain whole (CreateIndex at) is refl text
    (λ t same stop h. index_made_then schema sql table index defined it old.now.trees made.bare (all-slice_get (λ (t : Table). old.now.trees t.tree ≡ []) schema.tables at table there made.bare) t same (plain_utf8 sql utf8) (mode_of old) stop
    (subst (λ f. AtPlace (λ u. Defines (mode_of old) (MakesIndex t (record { schema = schema; trees = old.now.trees }) u)) f (Err stop)) there h)) e

on_bare : (sql : List ℕ) (schema : Schema) → FailsOnRows sql schema → FailsByFault sql schema
on_bare sql schema h old new e made = h old new e made.schema_is

fails_meta : FailsOnRows (get_or create_texts 0 []) (begun_schema 0 0)
unfolding understood everything fits_kind is_free_name begins same_name value_cmp lib.Ieee.is_nan lib.Ieee.lt
fails_meta = table_fails (begun_schema 0 0) (begun_schema 1 0) (get_or create_texts 0 []) (record meta { tree = 0 }) refl (refl, refl) refl refl refl
    (record { free = refl; free_indexes = refl; utf8 = refl; plain_name = refl; few = refl; reals = refl; index_reals_fit = refl; formed = refl; fit = refl; short = refl }) refl refl refl refl

fails_holder : FailsOnRows (get_or create_texts 1 []) (begun_schema 1 0)
unfolding understood everything fits_kind is_free_name begins same_name value_cmp lib.Ieee.is_nan lib.Ieee.lt
fails_holder = table_fails (begun_schema 1 0) (begun_schema 2 1) (get_or create_texts 1 []) (record holder { tree = 0 }) refl (refl, refl) refl refl refl
    (record { free = refl; free_indexes = refl; utf8 = refl; plain_name = refl; few = refl; reals = refl; index_reals_fit = refl; formed = refl; fit = refl; short = refl }) refl refl refl refl

fails_account : FailsOnRows (get_or create_texts 2 []) (begun_schema 2 1)
unfolding understood everything fits_kind is_free_name begins same_name value_cmp lib.Ieee.is_nan lib.Ieee.lt
fails_account = table_fails (begun_schema 2 1) (begun_schema 3 1) (get_or create_texts 2 []) (record account { tree = 0 }) refl (refl, refl) refl refl refl
    (record { free = refl; free_indexes = refl; utf8 = refl; plain_name = refl; few = refl; reals = refl; index_reals_fit = refl; formed = refl; fit = refl; short = refl }) refl refl refl refl

fails_device : FailsOnRows (get_or create_texts 3 []) (begun_schema 3 1)
unfolding understood everything fits_kind is_free_name begins same_name value_cmp lib.Ieee.is_nan lib.Ieee.lt
fails_device = table_fails (begun_schema 3 1) (begun_schema 4 2) (get_or create_texts 3 []) (record device { tree = 0 }) refl (refl, refl) refl refl refl
    (record { free = refl; free_indexes = refl; utf8 = refl; plain_name = refl; few = refl; reals = refl; index_reals_fit = refl; formed = refl; fit = refl; short = refl }) refl refl refl refl

fails_declaration : FailsOnRows (get_or create_texts 4 []) (begun_schema 4 2)
unfolding understood everything fits_kind is_free_name begins same_name value_cmp lib.Ieee.is_nan lib.Ieee.lt
fails_declaration = table_fails (begun_schema 4 2) (begun_schema 5 3) (get_or create_texts 4 []) (record declaration { tree = 0 }) refl (refl, refl) refl refl refl
    (record { free = refl; free_indexes = refl; utf8 = refl; plain_name = refl; few = refl; reals = refl; index_reals_fit = refl; formed = refl; fit = refl; short = refl }) refl refl refl refl

fails_lot : FailsOnRows (get_or create_texts 5 []) (begun_schema 5 3)
unfolding understood everything fits_kind is_free_name begins same_name value_cmp lib.Ieee.is_nan lib.Ieee.lt
fails_lot = table_fails (begun_schema 5 3) (begun_schema 6 4) (get_or create_texts 5 []) (record lot { tree = 0 }) refl (refl, refl) refl refl refl
    (record { free = refl; free_indexes = refl; utf8 = refl; plain_name = refl; few = refl; reals = refl; index_reals_fit = refl; formed = refl; fit = refl; short = refl }) refl refl refl refl

fails_piece : FailsOnRows (get_or create_texts 6 []) (begun_schema 6 4)
unfolding understood everything fits_kind is_free_name begins same_name value_cmp lib.Ieee.is_nan lib.Ieee.lt
fails_piece = table_fails (begun_schema 6 4) (begun_schema 7 4) (get_or create_texts 6 []) (record piece { tree = 0 }) refl (refl, refl) refl refl refl
    (record { free = refl; free_indexes = refl; utf8 = refl; plain_name = refl; few = refl; reals = refl; index_reals_fit = refl; formed = refl; fit = refl; short = refl }) refl refl refl refl

fails_peer : FailsOnRows (get_or create_texts 7 []) (begun_schema 7 4)
unfolding understood everything fits_kind is_free_name begins same_name value_cmp lib.Ieee.is_nan lib.Ieee.lt
fails_peer = table_fails (begun_schema 7 4) (begun_schema 8 5) (get_or create_texts 7 []) (record peer { tree = 0 }) refl (refl, refl) refl refl refl
    (record { free = refl; free_indexes = refl; utf8 = refl; plain_name = refl; few = refl; reals = refl; index_reals_fit = refl; formed = refl; fit = refl; short = refl }) refl refl refl refl

fails_receipt : FailsOnRows (get_or create_texts 8 []) (begun_schema 8 5)
unfolding understood everything fits_kind is_free_name begins same_name value_cmp lib.Ieee.is_nan lib.Ieee.lt
fails_receipt = table_fails (begun_schema 8 5) (begun_schema 9 6) (get_or create_texts 8 []) (record receipt { tree = 0 }) refl (refl, refl) refl refl refl
    (record { free = refl; free_indexes = refl; utf8 = refl; plain_name = refl; few = refl; reals = refl; index_reals_fit = refl; formed = refl; fit = refl; short = refl }) refl refl refl refl

fails_cancellation : FailsOnRows (get_or create_texts 9 []) (begun_schema 9 6)
unfolding understood everything fits_kind is_free_name begins same_name value_cmp lib.Ieee.is_nan lib.Ieee.lt
fails_cancellation = table_fails (begun_schema 9 6) (begun_schema 10 6) (get_or create_texts 9 []) (record cancellation { tree = 0 }) refl (refl, refl) refl refl refl
    (record { free = refl; free_indexes = refl; utf8 = refl; plain_name = refl; few = refl; reals = refl; index_reals_fit = refl; formed = refl; fit = refl; short = refl }) refl refl refl refl

fails_withdrawal : FailsOnRows (get_or create_texts 10 []) (begun_schema 10 6)
unfolding understood everything fits_kind is_free_name begins same_name value_cmp lib.Ieee.is_nan lib.Ieee.lt
fails_withdrawal = table_fails (begun_schema 10 6) (begun_schema 11 6) (get_or create_texts 10 []) (record withdrawal { tree = 0 }) refl (refl, refl) refl refl refl
    (record { free = refl; free_indexes = refl; utf8 = refl; plain_name = refl; few = refl; reals = refl; index_reals_fit = refl; formed = refl; fit = refl; short = refl }) refl refl refl refl

fails_notice_out : FailsOnRows (get_or create_texts 11 []) (begun_schema 11 6)
unfolding understood everything fits_kind is_free_name begins same_name value_cmp lib.Ieee.is_nan lib.Ieee.lt
fails_notice_out = table_fails (begun_schema 11 6) (begun_schema 12 6) (get_or create_texts 11 []) (record notice_out { tree = 0 }) refl (refl, refl) refl refl refl
    (record { free = refl; free_indexes = refl; utf8 = refl; plain_name = refl; few = refl; reals = refl; index_reals_fit = refl; formed = refl; fit = refl; short = refl }) refl refl refl refl

fails_notice_in : FailsOnRows (get_or create_texts 12 []) (begun_schema 12 6)
unfolding understood everything fits_kind is_free_name begins same_name value_cmp lib.Ieee.is_nan lib.Ieee.lt
fails_notice_in = table_fails (begun_schema 12 6) (begun_schema 13 7) (get_or create_texts 12 []) (record notice_in { tree = 0 }) refl (refl, refl) refl refl refl
    (record { free = refl; free_indexes = refl; utf8 = refl; plain_name = refl; few = refl; reals = refl; index_reals_fit = refl; formed = refl; fit = refl; short = refl }) refl refl refl refl

fails_piece_by_account : FailsByFault (get_or create_texts 13 []) (begun_schema 13 7)
unfolding understood everything fits_kind is_free_name begins same_name value_cmp lib.Ieee.is_nan lib.Ieee.lt
fails_piece_by_account = index_fails (begun_schema 13 7) (get_or create_texts 13 []) 6 piece (index_on (codes "piece_by_account") 0 10 (5 ∷ 0 ∷ [])) refl refl (refl, refl) refl refl refl
    (record { free = refl; utf8 = refl; plain_name = refl; table_utf8 = refl; few = refl; reals = refl; index_reals_fit = refl; fit = refl; short = refl }) refl

fails_piece_by_kind : FailsByFault (get_or create_texts 14 []) (begun_schema 13 8)
unfolding understood everything fits_kind is_free_name begins same_name value_cmp lib.Ieee.is_nan lib.Ieee.lt
fails_piece_by_kind = index_fails (begun_schema 13 8) (get_or create_texts 14 []) 6 piece (index_on (codes "piece_by_kind") 0 10 (4 ∷ 0 ∷ [])) refl refl (refl, refl) refl refl refl
    (record { free = refl; utf8 = refl; plain_name = refl; table_utf8 = refl; few = refl; reals = refl; index_reals_fit = refl; fit = refl; short = refl }) refl

fails_correction : FailsOnRows (get_or create_texts 15 []) (begun_schema 13 9)
unfolding understood everything fits_kind is_free_name begins same_name value_cmp lib.Ieee.is_nan lib.Ieee.lt
fails_correction = table_fails (begun_schema 13 9) (begun_schema 14 9) (get_or create_texts 15 []) (record correction { tree = 0 }) refl (refl, refl) refl refl refl
    (record { free = refl; free_indexes = refl; utf8 = refl; plain_name = refl; few = refl; reals = refl; index_reals_fit = refl; formed = refl; fit = refl; short = refl }) refl refl refl refl

fails_device_carrier : FailsOnRows (get_or create_texts 16 []) (begun_schema 14 9)
unfolding understood everything fits_kind is_free_name begins same_name value_cmp lib.Ieee.is_nan lib.Ieee.lt
fails_device_carrier = table_fails (begun_schema 14 9) (begun_schema 15 10) (get_or create_texts 16 []) (record device_carrier { tree = 0 }) refl (refl, refl) refl refl refl
    (record { free = refl; free_indexes = refl; utf8 = refl; plain_name = refl; few = refl; reals = refl; index_reals_fit = refl; formed = refl; fit = refl; short = refl }) refl refl refl refl

fails_lot_carrier : FailsOnRows (get_or create_texts 17 []) (begun_schema 15 10)
unfolding understood everything fits_kind is_free_name begins same_name value_cmp lib.Ieee.is_nan lib.Ieee.lt
fails_lot_carrier = table_fails (begun_schema 15 10) (begun_schema 16 10) (get_or create_texts 17 []) (record lot_carrier { tree = 0 }) refl (refl, refl) refl refl refl
    (record { free = refl; free_indexes = refl; utf8 = refl; plain_name = refl; few = refl; reals = refl; index_reals_fit = refl; formed = refl; fit = refl; short = refl }) refl refl refl refl

pub fails : (i : ℕ) → i < 18 → FailsByFault (get_or create_texts i []) (get_or stages i no_schema)
fails zero low = on_bare _ _ fails_meta
fails (suc zero) low = on_bare _ _ fails_holder
fails (suc (suc zero)) low = on_bare _ _ fails_account
fails (suc (suc (suc zero))) low = on_bare _ _ fails_device
fails (suc (suc (suc (suc zero)))) low = on_bare _ _ fails_declaration
fails (suc (suc (suc (suc (suc zero))))) low = on_bare _ _ fails_lot
fails (suc (suc (suc (suc (suc (suc zero)))))) low = on_bare _ _ fails_piece
fails (suc (suc (suc (suc (suc (suc (suc zero))))))) low = on_bare _ _ fails_peer
fails (suc (suc (suc (suc (suc (suc (suc (suc zero)))))))) low = on_bare _ _ fails_receipt
fails (suc (suc (suc (suc (suc (suc (suc (suc (suc zero))))))))) low = on_bare _ _ fails_cancellation
fails (suc (suc (suc (suc (suc (suc (suc (suc (suc (suc zero)))))))))) low = on_bare _ _ fails_withdrawal
fails (suc (suc (suc (suc (suc (suc (suc (suc (suc (suc (suc zero))))))))))) low = on_bare _ _ fails_notice_out
fails (suc (suc (suc (suc (suc (suc (suc (suc (suc (suc (suc (suc zero)))))))))))) low = on_bare _ _ fails_notice_in
fails (suc (suc (suc (suc (suc (suc (suc (suc (suc (suc (suc (suc (suc zero))))))))))))) low = fails_piece_by_account
fails (suc (suc (suc (suc (suc (suc (suc (suc (suc (suc (suc (suc (suc (suc zero)))))))))))))) low = fails_piece_by_kind
fails (suc (suc (suc (suc (suc (suc (suc (suc (suc (suc (suc (suc (suc (suc (suc zero))))))))))))))) low = on_bare _ _ fails_correction
fails (suc (suc (suc (suc (suc (suc (suc (suc (suc (suc (suc (suc (suc (suc (suc (suc zero)))))))))))))))) low = on_bare _ _ fails_device_carrier
fails (suc (suc (suc (suc (suc (suc (suc (suc (suc (suc (suc (suc (suc (suc (suc (suc (suc zero))))))))))))))))) low = on_bare _ _ fails_lot_carrier
fails (suc (suc (suc (suc (suc (suc (suc (suc (suc (suc (suc (suc (suc (suc (suc (suc (suc (suc n)))))))))))))))))) low = absurd (omega (arith, low))

-- those that are added to version 1
pub fails_added : (i : ℕ) → i < 3 → FailsOnRows (get_or create_texts (15 + i) []) (get_or stages (15 + i) no_schema)
fails_added zero low = fails_correction
fails_added (suc zero) low = fails_device_carrier
fails_added (suc (suc zero)) low = fails_lot_carrier
fails_added (suc (suc (suc n))) low = absurd (omega (arith, low))
