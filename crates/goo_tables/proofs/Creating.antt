-- What each CREATE leaves.
use Rattle.std.proofs.Common.{◌≡◌, ◌⊎◌, inl, inr, true≢false, true, Err, ℕ, ◌+◌, ◌<◌, zero, suc, IsTrue, arith, List, [], ◌∷◌, get_or, slice_get, codes, false, Some, None, Ok, refl, sym, ap, subst, ◌∙◌}
use Rattle.std.specs.List.{AllByRecursion}
use Rattle.sqlite_tied.specs.Compute.{everything}
use Rattle.sqlite.specs.Table.{Table}
use Rattle.sqlite.specs.Schema.{Schema}
use Rattle.sqlite.specs.Command.TheVariants.{CreateTable, CreateIndex}
use Rattle.sqlite.specs.Compile.{table_defined_by, index_defined_by}
use Rattle.sqlite.specs.Change.{created, indexed, next_tree, KeepsRows}
use Rattle.sqlite.specs.Does.{Tally, lacks_sequence, AtPlace, Defines, MakesIndex}
use Rattle.sqlite_disk.specs.Disk.{MoreFaults}
use Rattle.sqlite.specs.Effect.{Database, IsDatabase}
use Rattle.sqlite.specs.declared.error.Error.{Error}
use Rattle.std.proofs.lemmas.Bool.{cases_Bool}
use Rattle.sqlite.specs.Tree.{Trees}
use Rattle.sqlite.specs.Listing.{understood}
use Rattle.sqlite.specs.State.{State, Writes, Executes, ExecutesInside, HasCleanDisk, IsLive, KeepsCommit, Survives, mode_of}
use Rattle.sqlite.proofs.Callers.{IsPlain, command_of, statement_of, runs_as}
use Rattle.sqlite_schema.specs.declared.schema.Index.{Index}
use Rattle.sqlite_keyed.proofs.ListLemmas.{all_both, all-append}
use Rattle.goo_tables_rows.specs.Columns.{meta, holder, account, device, declaration, lot, piece, peer, receipt, cancellation, withdrawal, notice_out, notice_in, correction, device_carrier, lot_carrier, index_on, no_schema, registry_schema}
use Rattle.goo_tables_rows.specs.Refused.{IsFault}
use Rattle.goo_tables_rows.specs.Stands.{IsBare}
use Rattle.goo_tables_rows.proofs.Inside.{keeps_itself, stays, keeps_then, survives_both}
use Rattle.goo_tables_rows.proofs.Writing.{went, same_value}
use Rattle.goo_tables.specs.Created.{begun_schema, create_texts, stages, IsMade}
use Rattle.goo_tables.proofs.CreatingFails.{FailsByFault}

still_bare : (tables : List Table) (old new : Trees) → KeepsRows tables old new → AllByRecursion (λ (t : Table). old t.tree ≡ []) tables → AllByRecursion (λ (t : Table). new t.tree ≡ []) tables
still_bare tables old new same bare = all_both (λ (t : Table). new t.tree ≡ old t.tree) (λ t. old t.tree ≡ []) (λ t. new t.tree ≡ []) (λ t s b. s ∙ b) tables same bare

module _ (schema next : Schema) (sql : List ℕ) (table : Table) (is : command_of (understood schema sql) ≡ CreateTable) (plain : IsPlain (understood schema sql)) (text : statement_of sql (understood schema sql) ≡ sql)
    (defined : table_defined_by sql ≡ Ok table) (makes : created schema table ≡ next) (uncounted : lacks_sequence next ≡ false) (old new : State) (count : ℕ) where
  creates : IsMade schema old.now → Executes sql [] old new (Ok count) → IsMade next new.now × IsDatabase new.now
  creates it h =
      let has = it.schema_is in
      let w = subst (λ t. Writes old new None CreateTable t [] count) text (runs_as sql [] old new schema has CreateTable is plain count h) in
      let all = went w.changed in
      let first = went all.1 in
      let made = first.1 in
      let both : Ok made.table ≡ Ok table = sym made.defined ∙ defined in
      let same : made.table ≡ table = cc in
      let is_next : first.0.schema ≡ next = made.is ∙ ap (λ s. created s made.table) has ∙ ap (created schema) same ∙ makes in
      let bare : lacks_sequence first.0.schema ≡ false = ap lacks_sequence is_next ∙ uncounted in
      let now : new.now ≡ first.0 = ap (λ (p : Tally × Database). p.1) (same_value all.2) ∙ same_value (rw bare at first.2) in
      let empty : new.now.trees (next_tree schema) ≡ [] = ap (λ (d : Database). d.trees (next_tree schema)) now ∙ subst (λ s. first.0.trees (next_tree s) ≡ []) has made.empty in
      let kept = subst (λ (d : Database). KeepsRows schema.tables old.now.trees d.trees) (sym now) (subst (λ (s : Schema). KeepsRows s.tables old.now.trees first.0.trees) has made.others) in
      let all_bare : AllByRecursion (λ (t : Table). new.now.trees t.tree ≡ []) (created schema table).tables =
      all-append (λ (t : Table). new.now.trees t.tree ≡ []) schema.tables (record table { tree = next_tree schema } ∷ []) (still_bare schema.tables old.now.trees new.now.trees kept it.bare) (empty, tt) in
      (record { schema_is = ap (λ (d : Database). d.schema) now ∙ is_next; bare = subst (λ (s : Schema). AllByRecursion (λ (t : Table). new.now.trees t.tree ≡ []) s.tables) makes all_bare }, w.sound)

module _ (schema next : Schema) (sql : List ℕ) (at : ℕ) (table : Table) (index : Index) (there : slice_get schema.tables at ≡ Some table) (is : command_of (understood schema sql) ≡ CreateIndex at)
    (plain : IsPlain (understood schema sql)) (text : statement_of sql (understood schema sql) ≡ sql) (defined : index_defined_by table sql ≡ Ok index) (makes : indexed schema table index ≡ next)
    (old new : State) (count : ℕ) where
  creates_index : IsMade schema old.now → Executes sql [] old new (Ok count) → IsMade next new.now × IsDatabase new.now
  creates_index it h =
      let has = it.schema_is in
      let found : slice_get old.now.schema.tables at ≡ Some table = ap (λ (s : Schema). slice_get s.tables at) has ∙ there in
      let w = subst (λ t. Writes old new None (CreateIndex at) t [] count) text (runs_as sql [] old new schema has (CreateIndex at) is plain count h) in
      let all = went (subst (λ f. AtPlace (λ t. Defines (mode_of old) (MakesIndex sql old.now t)) f (Ok (w.tally, new.now))) found w.changed) in
      let made = all.1 in
      let both : Ok made.index ≡ Ok index = sym made.defined ∙ defined in
      let same : made.index ≡ index = cc in
      let is_next : all.0.schema ≡ next = made.is ∙ ap (λ s. indexed s table made.index) has ∙ ap (indexed schema table) same ∙ makes in
      let now : new.now ≡ all.0 = ap (λ (p : Tally × Database). p.1) (same_value all.2) in
      let kept = subst (λ (d : Database). KeepsRows schema.tables old.now.trees d.trees) (sym now) (subst (λ (s : Schema). KeepsRows s.tables old.now.trees all.0.trees) has made.rows) in
      let all_bare : AllByRecursion (λ (t : Table). new.now.trees t.tree ≡ []) (indexed schema table index).tables = still_bare schema.tables old.now.trees new.now.trees kept it.bare in
      (record { schema_is = ap (λ (d : Database). d.schema) now ∙ is_next; bare = subst (λ (s : Schema). AllByRecursion (λ (t : Table). new.now.trees t.tree ≡ []) s.tables) makes all_bare }, w.sound)

-- one text leads from a schema to the next, and to a database
abbrev pub Leads : List ℕ → Schema → Schema → Type 1
Leads sql schema next = (old new : State) (count : ℕ) → IsMade schema old.now → Executes sql [] old new (Ok count) → IsMade next new.now × IsDatabase new.now

makes_meta : Leads (codes "CREATE TABLE meta (id INTEGER PRIMARY KEY, version INTEGER NOT NULL, code INTEGER NOT NULL, today TEXT NOT NULL, next_serial INTEGER NOT NULL, next_account INTEGER NOT NULL, next_cancellation INTEGER NOT NULL, next_withdrawal INTEGER NOT NULL, next_notice INTEGER NOT NULL) STRICT") (begun_schema 0 0) (begun_schema 1 0)
unfolding understood everything
makes_meta = creates (begun_schema 0 0) (begun_schema 1 0) (codes "CREATE TABLE meta (id INTEGER PRIMARY KEY, version INTEGER NOT NULL, code INTEGER NOT NULL, today TEXT NOT NULL, next_serial INTEGER NOT NULL, next_account INTEGER NOT NULL, next_cancellation INTEGER NOT NULL, next_withdrawal INTEGER NOT NULL, next_notice INTEGER NOT NULL) STRICT") (record meta { tree = 0 }) refl (refl, refl) refl refl refl refl

makes_holder : Leads (codes "CREATE TABLE holder (code TEXT NOT NULL PRIMARY KEY, name TEXT NOT NULL) STRICT") (begun_schema 1 0) (begun_schema 2 1)
unfolding understood everything
makes_holder = creates (begun_schema 1 0) (begun_schema 2 1) (codes "CREATE TABLE holder (code TEXT NOT NULL PRIMARY KEY, name TEXT NOT NULL) STRICT") (record holder { tree = 0 }) refl (refl, refl) refl refl refl refl

makes_account : Leads (codes "CREATE TABLE account (number INTEGER PRIMARY KEY, holder TEXT NOT NULL, closed INTEGER NOT NULL) STRICT") (begun_schema 2 1) (begun_schema 3 1)
unfolding understood everything
makes_account = creates (begun_schema 2 1) (begun_schema 3 1) (codes "CREATE TABLE account (number INTEGER PRIMARY KEY, holder TEXT NOT NULL, closed INTEGER NOT NULL) STRICT") (record account { tree = 0 }) refl (refl, refl) refl refl refl refl

makes_device : Leads (codes "CREATE TABLE device (gsrn TEXT NOT NULL PRIMARY KEY, account INTEGER NOT NULL, country TEXT NOT NULL, site TEXT NOT NULL, tech TEXT NOT NULL, source TEXT NOT NULL, capacity_w INTEGER NOT NULL, commissioned TEXT NOT NULL, support TEXT NOT NULL, last_day TEXT, carry INTEGER NOT NULL) STRICT") (begun_schema 3 1) (begun_schema 4 2)
unfolding understood everything
makes_device = creates (begun_schema 3 1) (begun_schema 4 2) (codes "CREATE TABLE device (gsrn TEXT NOT NULL PRIMARY KEY, account INTEGER NOT NULL, country TEXT NOT NULL, site TEXT NOT NULL, tech TEXT NOT NULL, source TEXT NOT NULL, capacity_w INTEGER NOT NULL, commissioned TEXT NOT NULL, support TEXT NOT NULL, last_day TEXT, carry INTEGER NOT NULL) STRICT") (record device { tree = 0 }) refl (refl, refl) refl refl refl refl

makes_declaration : Leads (codes "CREATE TABLE declaration (id INTEGER PRIMARY KEY, device TEXT NOT NULL, first_day TEXT NOT NULL, last_day TEXT NOT NULL, gross INTEGER NOT NULL, aux INTEGER NOT NULL, UNIQUE (device, first_day)) STRICT") (begun_schema 4 2) (begun_schema 5 3)
unfolding understood everything
makes_declaration = creates (begun_schema 4 2) (begun_schema 5 3) (codes "CREATE TABLE declaration (id INTEGER PRIMARY KEY, device TEXT NOT NULL, first_day TEXT NOT NULL, last_day TEXT NOT NULL, gross INTEGER NOT NULL, aux INTEGER NOT NULL, UNIQUE (device, first_day)) STRICT") (record declaration { tree = 0 }) refl (refl, refl) refl refl refl refl

makes_lot : Leads (codes "CREATE TABLE lot (id INTEGER PRIMARY KEY, origin INTEGER NOT NULL, device TEXT NOT NULL, country TEXT NOT NULL, site TEXT NOT NULL, tech TEXT NOT NULL, source TEXT NOT NULL, capacity_w INTEGER NOT NULL, commissioned TEXT NOT NULL, support TEXT NOT NULL, first_day TEXT NOT NULL, last_day TEXT NOT NULL, expires_on TEXT, issued_on TEXT NOT NULL, UNIQUE (origin, device, first_day)) STRICT") (begun_schema 5 3) (begun_schema 6 4)
unfolding understood everything
makes_lot = creates (begun_schema 5 3) (begun_schema 6 4) (codes "CREATE TABLE lot (id INTEGER PRIMARY KEY, origin INTEGER NOT NULL, device TEXT NOT NULL, country TEXT NOT NULL, site TEXT NOT NULL, tech TEXT NOT NULL, source TEXT NOT NULL, capacity_w INTEGER NOT NULL, commissioned TEXT NOT NULL, support TEXT NOT NULL, first_day TEXT NOT NULL, last_day TEXT NOT NULL, expires_on TEXT, issued_on TEXT NOT NULL, UNIQUE (origin, device, first_day)) STRICT") (record lot { tree = 0 }) refl (refl, refl) refl refl refl refl

makes_piece : Leads (codes "CREATE TABLE piece (first INTEGER PRIMARY KEY, last INTEGER NOT NULL, lot INTEGER NOT NULL, kind INTEGER NOT NULL, account INTEGER NOT NULL, act INTEGER NOT NULL) STRICT") (begun_schema 6 4) (begun_schema 7 4)
unfolding understood everything
makes_piece = creates (begun_schema 6 4) (begun_schema 7 4) (codes "CREATE TABLE piece (first INTEGER PRIMARY KEY, last INTEGER NOT NULL, lot INTEGER NOT NULL, kind INTEGER NOT NULL, account INTEGER NOT NULL, act INTEGER NOT NULL) STRICT") (record piece { tree = 0 }) refl (refl, refl) refl refl refl refl

makes_peer : Leads (codes "CREATE TABLE peer (code INT NOT NULL PRIMARY KEY) STRICT") (begun_schema 7 4) (begun_schema 8 5)
unfolding understood everything
makes_peer = creates (begun_schema 7 4) (begun_schema 8 5) (codes "CREATE TABLE peer (code INT NOT NULL PRIMARY KEY) STRICT") (record peer { tree = 0 }) refl (refl, refl) refl refl refl refl

makes_receipt : Leads (codes "CREATE TABLE receipt (caller TEXT NOT NULL, key TEXT NOT NULL, command BLOB NOT NULL, kind INTEGER NOT NULL, n1 INTEGER NOT NULL, n2 INTEGER NOT NULL, n3 INTEGER NOT NULL, PRIMARY KEY (caller, key)) STRICT") (begun_schema 8 5) (begun_schema 9 6)
unfolding understood everything
makes_receipt = creates (begun_schema 8 5) (begun_schema 9 6) (codes "CREATE TABLE receipt (caller TEXT NOT NULL, key TEXT NOT NULL, command BLOB NOT NULL, kind INTEGER NOT NULL, n1 INTEGER NOT NULL, n2 INTEGER NOT NULL, n3 INTEGER NOT NULL, PRIMARY KEY (caller, key)) STRICT") (record receipt { tree = 0 }) refl (refl, refl) refl refl refl refl

makes_cancellation : Leads (codes "CREATE TABLE cancellation (number INTEGER PRIMARY KEY, account INTEGER NOT NULL, first INTEGER NOT NULL, last INTEGER NOT NULL, beneficiary TEXT NOT NULL, use_first TEXT NOT NULL, use_last TEXT NOT NULL, day TEXT NOT NULL) STRICT") (begun_schema 9 6) (begun_schema 10 6)
unfolding understood everything
makes_cancellation = creates (begun_schema 9 6) (begun_schema 10 6) (codes "CREATE TABLE cancellation (number INTEGER PRIMARY KEY, account INTEGER NOT NULL, first INTEGER NOT NULL, last INTEGER NOT NULL, beneficiary TEXT NOT NULL, use_first TEXT NOT NULL, use_last TEXT NOT NULL, day TEXT NOT NULL) STRICT") (record cancellation { tree = 0 }) refl (refl, refl) refl refl refl refl

makes_withdrawal : Leads (codes "CREATE TABLE withdrawal (number INTEGER PRIMARY KEY, first INTEGER NOT NULL, last INTEGER NOT NULL, reason TEXT NOT NULL, day TEXT NOT NULL) STRICT") (begun_schema 10 6) (begun_schema 11 6)
unfolding understood everything
makes_withdrawal = creates (begun_schema 10 6) (begun_schema 11 6) (codes "CREATE TABLE withdrawal (number INTEGER PRIMARY KEY, first INTEGER NOT NULL, last INTEGER NOT NULL, reason TEXT NOT NULL, day TEXT NOT NULL) STRICT") (record withdrawal { tree = 0 }) refl (refl, refl) refl refl refl refl

makes_notice_out : Leads (codes "CREATE TABLE notice_out (number INTEGER PRIMARY KEY, account INTEGER NOT NULL, body TEXT NOT NULL) STRICT") (begun_schema 11 6) (begun_schema 12 6)
unfolding understood everything
makes_notice_out = creates (begun_schema 11 6) (begun_schema 12 6) (codes "CREATE TABLE notice_out (number INTEGER PRIMARY KEY, account INTEGER NOT NULL, body TEXT NOT NULL) STRICT") (record notice_out { tree = 0 }) refl (refl, refl) refl refl refl refl

makes_notice_in : Leads (codes "CREATE TABLE notice_in (sender INTEGER NOT NULL, number INTEGER NOT NULL, body TEXT NOT NULL, PRIMARY KEY (sender, number)) STRICT") (begun_schema 12 6) (begun_schema 13 7)
unfolding understood everything
makes_notice_in = creates (begun_schema 12 6) (begun_schema 13 7) (codes "CREATE TABLE notice_in (sender INTEGER NOT NULL, number INTEGER NOT NULL, body TEXT NOT NULL, PRIMARY KEY (sender, number)) STRICT") (record notice_in { tree = 0 }) refl (refl, refl) refl refl refl refl

makes_piece_by_account : Leads (codes "CREATE INDEX piece_by_account ON piece (account, first)") (begun_schema 13 7) (begun_schema 13 8)
unfolding understood everything
makes_piece_by_account = creates_index (begun_schema 13 7) (begun_schema 13 8) (codes "CREATE INDEX piece_by_account ON piece (account, first)") 6 piece (index_on (codes "piece_by_account") 0 10 (5 ∷ 0 ∷ [])) refl refl (refl, refl) refl refl refl

makes_piece_by_kind : Leads (codes "CREATE INDEX piece_by_kind ON piece (kind, first)") (begun_schema 13 8) (begun_schema 13 9)
unfolding understood everything
makes_piece_by_kind = creates_index (begun_schema 13 8) (begun_schema 13 9) (codes "CREATE INDEX piece_by_kind ON piece (kind, first)") 6 piece (index_on (codes "piece_by_kind") 0 10 (4 ∷ 0 ∷ [])) refl refl (refl, refl) refl refl refl

makes_correction : Leads (codes "CREATE TABLE correction (id INTEGER PRIMARY KEY, device TEXT NOT NULL, first_day TEXT NOT NULL, less INTEGER NOT NULL, withdrawal INTEGER NOT NULL) STRICT") (begun_schema 13 9) (begun_schema 14 9)
unfolding understood everything
makes_correction = creates (begun_schema 13 9) (begun_schema 14 9) (codes "CREATE TABLE correction (id INTEGER PRIMARY KEY, device TEXT NOT NULL, first_day TEXT NOT NULL, less INTEGER NOT NULL, withdrawal INTEGER NOT NULL) STRICT") (record correction { tree = 0 }) refl (refl, refl) refl refl refl refl

makes_device_carrier : Leads (codes "CREATE TABLE device_carrier (gsrn TEXT NOT NULL PRIMARY KEY, carrier TEXT NOT NULL) STRICT") (begun_schema 14 9) (begun_schema 15 10)
unfolding understood everything
makes_device_carrier = creates (begun_schema 14 9) (begun_schema 15 10) (codes "CREATE TABLE device_carrier (gsrn TEXT NOT NULL PRIMARY KEY, carrier TEXT NOT NULL) STRICT") (record device_carrier { tree = 0 }) refl (refl, refl) refl refl refl refl

makes_lot_carrier : Leads (codes "CREATE TABLE lot_carrier (lot INTEGER PRIMARY KEY, carrier TEXT NOT NULL) STRICT") (begun_schema 15 10) (begun_schema 16 10)
unfolding understood everything
makes_lot_carrier = creates (begun_schema 15 10) (begun_schema 16 10) (codes "CREATE TABLE lot_carrier (lot INTEGER PRIMARY KEY, carrier TEXT NOT NULL) STRICT") (record lot_carrier { tree = 0 }) refl (refl, refl) refl refl refl refl

-- ---- all texts in turn

pub leads : (i : ℕ) → i < 18 → Leads (get_or create_texts i []) (get_or stages i no_schema) (get_or stages (i + 1) no_schema)
leads zero low = makes_meta
leads (suc zero) low = makes_holder
leads (suc (suc zero)) low = makes_account
leads (suc (suc (suc zero))) low = makes_device
leads (suc (suc (suc (suc zero)))) low = makes_declaration
leads (suc (suc (suc (suc (suc zero))))) low = makes_lot
leads (suc (suc (suc (suc (suc (suc zero)))))) low = makes_piece
leads (suc (suc (suc (suc (suc (suc (suc zero))))))) low = makes_peer
leads (suc (suc (suc (suc (suc (suc (suc (suc zero)))))))) low = makes_receipt
leads (suc (suc (suc (suc (suc (suc (suc (suc (suc zero))))))))) low = makes_cancellation
leads (suc (suc (suc (suc (suc (suc (suc (suc (suc (suc zero)))))))))) low = makes_withdrawal
leads (suc (suc (suc (suc (suc (suc (suc (suc (suc (suc (suc zero))))))))))) low = makes_notice_out
leads (suc (suc (suc (suc (suc (suc (suc (suc (suc (suc (suc (suc zero)))))))))))) low = makes_notice_in
leads (suc (suc (suc (suc (suc (suc (suc (suc (suc (suc (suc (suc (suc zero))))))))))))) low = makes_piece_by_account
leads (suc (suc (suc (suc (suc (suc (suc (suc (suc (suc (suc (suc (suc (suc zero)))))))))))))) low = makes_piece_by_kind
leads (suc (suc (suc (suc (suc (suc (suc (suc (suc (suc (suc (suc (suc (suc (suc zero))))))))))))))) low = makes_correction
leads (suc (suc (suc (suc (suc (suc (suc (suc (suc (suc (suc (suc (suc (suc (suc (suc zero)))))))))))))))) low = makes_device_carrier
leads (suc (suc (suc (suc (suc (suc (suc (suc (suc (suc (suc (suc (suc (suc (suc (suc (suc zero))))))))))))))))) low = makes_lot_carrier
leads (suc (suc (suc (suc (suc (suc (suc (suc (suc (suc (suc (suc (suc (suc (suc (suc (suc (suc n)))))))))))))))))) low = absurd (omega (arith, low))

-- ---- from a database without tables to some of them, inside a transaction

pub record Makes (schema : Schema) (a b : State) : Type 0 where
  pub made : HasCleanDisk b → IsTrue a.in_transaction → a.now.schema ≡ no_schema → IsTrue b.in_transaction × IsMade schema b.now
  pub live : HasCleanDisk b → IsLive a → IsTrue a.in_transaction → a.now.schema ≡ no_schema → IsLive b
  pub uncommitted : HasCleanDisk b → KeepsCommit a b
  pub survives : Survives a b (λ _. ⊥)

pub makes_nothing : (a : State) → Makes (get_or stages 0 no_schema) a a
makes_nothing a = record { made = λ clean inside none. (inside, record { schema_is = none; bare = tt }); live = λ clean live inside none. live; uncommitted = λ _. keeps_itself a; survives = stays a }

ran_made : (schema next : Schema) (sql : List ℕ) (b c : State) (count : ℕ) → Leads sql schema next → IsMade schema b.now → ExecutesInside 0 sql [] b c (Ok count) → IsTrue c.in_transaction × IsMade next c.now
ran_made schema next sql b c count lead it h = (h.1.mode, (lead b c count it h.0).0)

ran_live : (schema next : Schema) (sql : List ℕ) (b c : State) (count : ℕ) → Leads sql schema next → IsMade schema b.now → IsLive b → ExecutesInside 0 sql [] b c (Ok count) → IsLive c
ran_live schema next sql b c count lead it live h = λ _. ((lead b c count it h.0).1, subst IsDatabase (sym h.1.committed_is) (live h.1.was_open).1)

-- what an earlier call shut, a fault shut
pub fault_since : (a b c : State) (e : Error) → HasCleanDisk b → Survives a b (λ _. ⊥) → Survives b c (λ _. ⊥) → IsFault b c e → IsFault a c e
fault_since a b c e clean first next (inl memory) = inl memory
fault_since a b c e clean first next (inr (told, inl more)) = inr (told, inl (omega (arith, first.counts, more)))
fault_since a b c e clean first next (inr (told, inr shut)) = inr (told, shut_since (cases_Bool a.is_open))
  where
    shut_since : (a.is_open ≡ true) ⊎ (a.is_open ≡ false) → MoreFaults a.faults c.faults ⊎ (a.is_open ≡ false)
    shut_since (inl live) = elim (first.closes clean live) [ inl still ↦ absurd (true≢false (sym still ∙ shut)) | inr more ↦ inl (omega (arith, more, next.counts)) ]
    shut_since (inr was) = inr was

module _ (schema next : Schema) (sql : List ℕ) (a b c : State) (before : Makes schema a b) (keeps : HasCleanDisk c → KeepsCommit b c) (survives : Survives b c (λ _. ⊥)) where
  early : HasCleanDisk c → HasCleanDisk b
  early clean = omega (arith, survives.clean)

  pub makes_keeps : HasCleanDisk c → KeepsCommit a c
  makes_keeps clean = keeps_then a b c (before.uncommitted (early clean)) (keeps clean)

  pub makes_survives : Survives a c (λ _. ⊥)
  makes_survives = survives_both a b c before.survives survives

  pub makes_next : (count : ℕ) → Leads sql schema next → (HasCleanDisk c → IsTrue b.in_transaction → ExecutesInside 0 sql [] b c (Ok count)) → Makes next a c
  makes_next count lead runs = record {
    made = λ clean inside none. (let was = before.made (early clean) inside none in ran_made schema next sql b c count lead was.1 (runs clean was.0));
    live = λ clean live inside none. (let was = before.made (early clean) inside none in ran_live schema next sql b c count lead was.1 (before.live (early clean) live inside none) (runs clean was.0));
    uncommitted = makes_keeps;
    survives = makes_survives;
  }

  -- a text that fails only by a fault
  pub makes_no_more : (e : Error) → FailsByFault sql schema → (HasCleanDisk c → IsTrue b.in_transaction → ExecutesInside 0 sql [] b c (Err e)) → HasCleanDisk c → IsTrue a.in_transaction → a.now.schema ≡ no_schema → IsFault a c e
  makes_no_more e fails runs clean inside none = (let was = before.made (early clean) inside none in fault_since a b c e (early clean) before.survives survives (fails b c e was.1 (runs clean was.0)))

pub bare_from : (db : Database) → IsMade registry_schema db → IsBare db
bare_from db it = record {
  schema = it.schema_is;
  meta = it.bare.0;
  holders = it.bare.1.0;
  accounts = it.bare.1.1.0;
  devices = it.bare.1.1.1.0;
  declarations = it.bare.1.1.1.1.0;
  lots = it.bare.1.1.1.1.1.0;
  pieces = it.bare.1.1.1.1.1.1.0;
  peers = it.bare.1.1.1.1.1.1.1.0;
  receipts = it.bare.1.1.1.1.1.1.1.1.0;
  cancellations = it.bare.1.1.1.1.1.1.1.1.1.0;
  withdrawals = it.bare.1.1.1.1.1.1.1.1.1.1.0;
  notices_out = it.bare.1.1.1.1.1.1.1.1.1.1.1.0;
  notices_in = it.bare.1.1.1.1.1.1.1.1.1.1.1.1.0;
  corrections = it.bare.1.1.1.1.1.1.1.1.1.1.1.1.1.0;
  device_carriers = it.bare.1.1.1.1.1.1.1.1.1.1.1.1.1.1.0;
  lot_carriers = it.bare.1.1.1.1.1.1.1.1.1.1.1.1.1.1.1.0;
}
