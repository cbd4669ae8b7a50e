-- What each CREATE TABLE adds to a database of version 1.
use Rattle.std.proofs.Common.{◌≡◌, Err, ℕ, ◌+◌, ◌<◌, zero, suc, IsTrue, arith, List, [], ◌∷◌, ◌++◌, get_or, false, take, Ok, None, refl, sym, ap, subst, ◌∙◌}
use Rattle.std.specs.Prelude.{ℤ}
use Rattle.std.specs.List.{AllByRecursion}
use Rattle.sqlite_tied.specs.Compute.{everything}
use Rattle.sqlite.specs.Table.{Table}
use Rattle.sqlite.specs.Order.{Row}
use Rattle.sqlite.specs.Schema.{Schema}
use Rattle.sqlite.specs.Command.TheVariants.{CreateTable}
use Rattle.sqlite.specs.Compile.{table_defined_by}
use Rattle.sqlite.specs.Change.{created, next_tree, KeepsRows}
use Rattle.sqlite.specs.Does.{Tally, lacks_sequence}
use Rattle.sqlite.specs.Effect.{Database, IsDatabase}
use Rattle.sqlite.specs.Tree.{Trees}
use Rattle.sqlite.specs.declared.error.Error.{Error}
use Rattle.sqlite.specs.Listing.{understood}
use Rattle.sqlite.specs.State.{State, Writes, Executes, ExecutesInside, HasCleanDisk, IsLive, KeepsCommit, Survives}
use Rattle.sqlite.proofs.Callers.{IsPlain, command_of, statement_of, runs_as}
use Rattle.sqlite_keyed.proofs.ListLemmas.{all_both, all_of}
use Rattle.goo_tables_rows.specs.Columns.{first_schema, correction, device_carrier, lot_carrier, no_schema, registry_tables, registry_schema}
use Rattle.goo_tables_rows.specs.Rows.{Tables}
use Rattle.goo_tables_rows.specs.Stands.{Keeps, Stands}
use Rattle.goo_tables_rows.proofs.Inside.{keeps_itself, stays, keeps_then, survives_both}
use Rattle.goo_tables_rows.proofs.Writing.{went, same_value}
use Rattle.goo_tables.specs.Created.{begun_schema, create_texts, stages}
use Rattle.goo_tables_rows.specs.First.{IsFirst}
use Rattle.goo_tables_rows.specs.Refused.{IsFault}
use Rattle.goo_tables.specs.Added.{IsGrown}
use Rattle.goo_tables.proofs.CreatingFails.{FailsOnRows}
use Rattle.goo_tables.proofs.Creating.{fault_since}

-- ---- one text, over whatever rows

record Adds (schema next : Schema) (old new : State) : Type 0 where
  sound : IsDatabase new.now
  is : new.now.schema ≡ next
  empty : new.now.trees (next_tree schema) ≡ []
  others : KeepsRows schema.tables old.now.trees new.now.trees

module _ (schema next : Schema) (sql : List ℕ) (table : Table) (is : command_of (understood schema sql) ≡ CreateTable) (plain : IsPlain (understood schema sql)) (text : statement_of sql (understood schema sql) ≡ sql)
    (defined : table_defined_by sql ≡ Ok table) (makes : created schema table ≡ next) (uncounted : lacks_sequence next ≡ false) (old new : State) (count : ℕ) where
  adds : old.now.schema ≡ schema → Executes sql [] old new (Ok count) → Adds schema next old new
  adds has h =
      let w = subst (λ t. Writes old new None CreateTable t [] count) text (runs_as sql [] old new schema has CreateTable is plain count h) in
      let all = went w.changed in
      let first = went all.1 in
      let made = first.1 in
      let both : Ok made.table ≡ Ok table = sym made.defined ∙ defined in
      let same : made.table ≡ table = cc in
      let is_next : first.0.schema ≡ next = made.is ∙ ap (λ s. created s made.table) has ∙ ap (created schema) same ∙ makes in
      let bare : lacks_sequence first.0.schema ≡ false = ap lacks_sequence is_next ∙ uncounted in
      let now : new.now ≡ first.0 = ap (λ (p : Tally × Database). p.1) (same_value all.2) ∙ same_value (rw bare at first.2) in
      record {
        sound = w.sound;
        is = ap (λ (d : Database). d.schema) now ∙ is_next;
        empty = ap (λ (d : Database). d.trees (next_tree schema)) now ∙ subst (λ s. first.0.trees (next_tree s) ≡ []) has made.empty;
        others = subst (λ (d : Database). KeepsRows schema.tables old.now.trees d.trees) (sym now) (subst (λ (s : Schema). KeepsRows s.tables old.now.trees first.0.trees) has made.others);
      }

adds_correction : (old new : State) (count : ℕ) → old.now.schema ≡ begun_schema 13 9 → Executes (get_or create_texts 15 []) [] old new (Ok count) → Adds (begun_schema 13 9) (begun_schema 14 9) old new
unfolding understood everything
adds_correction = adds (begun_schema 13 9) (begun_schema 14 9) (get_or create_texts 15 []) (record correction { tree = 0 }) refl (refl, refl) refl refl refl refl

adds_device_carrier : (old new : State) (count : ℕ) → old.now.schema ≡ begun_schema 14 9 → Executes (get_or create_texts 16 []) [] old new (Ok count) → Adds (begun_schema 14 9) (begun_schema 15 10) old new
unfolding understood everything
adds_device_carrier = adds (begun_schema 14 9) (begun_schema 15 10) (get_or create_texts 16 []) (record device_carrier { tree = 0 }) refl (refl, refl) refl refl refl refl

adds_lot_carrier : (old new : State) (count : ℕ) → old.now.schema ≡ begun_schema 15 10 → Executes (get_or create_texts 17 []) [] old new (Ok count) → Adds (begun_schema 15 10) (begun_schema 16 10) old new
unfolding understood everything
adds_lot_carrier = adds (begun_schema 15 10) (begun_schema 16 10) (get_or create_texts 17 []) (record lot_carrier { tree = 0 }) refl (refl, refl) refl refl refl refl

-- ---- one text after the other

front : (xs ys : List Table) (P : Table → Type 0) → AllByRecursion P (xs ++ ys) → AllByRecursion P xs
front [] ys P all = tt
front (x ∷ xs) ys P all = (all.0, front xs ys P all.1)

then_kept : (tables : List Table) (a b c : Trees) → KeepsRows tables a b → KeepsRows tables b c → KeepsRows tables a c
then_kept tables a b c one two = all_both (λ (t : Table). c t.tree ≡ b t.tree) (λ t. b t.tree ≡ a t.tree) (λ t. c t.tree ≡ a t.tree) (λ t s h. s ∙ h) tables two one

abbrev Extends : List ℕ → Schema → Schema → Type 1
Extends sql schema next = (first : Database) (b c : State) (count : ℕ) → IsGrown schema first b.now → Executes sql [] b c (Ok count) → IsGrown next first c.now × IsDatabase c.now

module _ (first : Database) (b c : State) (count : ℕ) where
  second : IsGrown (begun_schema 13 9) first b.now → Executes (get_or create_texts 15 []) [] b c (Ok count) → IsGrown (begun_schema 14 9) first c.now × IsDatabase c.now
  second it h =
      let a = adds_correction b c count it.schema_is h in
      (record { schema_is = a.is; kept = then_kept (take 13 registry_tables) first.trees b.now.trees c.now.trees it.kept a.others; bare = (a.empty, tt) }, a.sound)

  third : IsGrown (begun_schema 14 9) first b.now → Executes (get_or create_texts 16 []) [] b c (Ok count) → IsGrown (begun_schema 15 10) first c.now × IsDatabase c.now
  third it h =
      let a = adds_device_carrier b c count it.schema_is h in
      let others = front (take 13 registry_tables) (correction ∷ []) (λ t. c.now.trees t.tree ≡ b.now.trees t.tree) a.others in
      (record { schema_is = a.is; kept = then_kept (take 13 registry_tables) first.trees b.now.trees c.now.trees it.kept others; bare = (a.others.1.1.1.1.1.1.1.1.1.1.1.1.1.0 ∙ it.bare.0, (a.empty, tt)) }, a.sound)

  fourth : IsGrown (begun_schema 15 10) first b.now → Executes (get_or create_texts 17 []) [] b c (Ok count) → IsGrown (begun_schema 16 10) first c.now × IsDatabase c.now
  fourth it h =
      let a = adds_lot_carrier b c count it.schema_is h in
      let others = front (take 13 registry_tables) (correction ∷ device_carrier ∷ []) (λ t. c.now.trees t.tree ≡ b.now.trees t.tree) a.others in
      (record { schema_is = a.is; kept = then_kept (take 13 registry_tables) first.trees b.now.trees c.now.trees it.kept others; bare = (a.others.1.1.1.1.1.1.1.1.1.1.1.1.1.0 ∙ it.bare.0, (a.others.1.1.1.1.1.1.1.1.1.1.1.1.1.1.0 ∙ it.bare.1.0, (a.empty, tt))) }, a.sound)

pub extends : (i : ℕ) → i < 3 → Extends (get_or create_texts (15 + i) []) (get_or stages (15 + i) no_schema) (get_or stages (15 + (i + 1)) no_schema)
extends zero low = second
extends (suc zero) low = third
extends (suc (suc zero)) low = fourth
extends (suc (suc (suc n))) low = absurd (omega (arith, low))

-- ---- inside a transaction

pub record Grows (schema : Schema) (a b : State) : Type 0 where
  pub made : HasCleanDisk b → IsTrue a.in_transaction → a.now.schema ≡ first_schema → IsTrue b.in_transaction × IsGrown schema a.now b.now
  pub live : HasCleanDisk b → IsLive a → IsTrue a.in_transaction → a.now.schema ≡ first_schema → IsLive b
  pub uncommitted : HasCleanDisk b → KeepsCommit a b
  pub survives : Survives a b (λ _. ⊥)

pub grows_nothing : (a : State) → Grows (get_or stages 15 no_schema) a a
grows_nothing a = record { made = λ clean inside has. (inside, record { schema_is = has; kept = all_of (λ (t : Table). a.now.trees t.tree ≡ a.now.trees t.tree) (λ _. refl) (take 13 registry_tables); bare = tt }); live = λ clean live inside has. live; uncommitted = λ _. keeps_itself a; survives = stays a }

ran_grown : (schema next : Schema) (sql : List ℕ) (first : Database) (b c : State) (count : ℕ) → Extends sql schema next → IsGrown schema first b.now → ExecutesInside 0 sql [] b c (Ok count) → IsTrue c.in_transaction × IsGrown next first c.now
ran_grown schema next sql first b c count lead it h = (h.1.mode, (lead first b c count it h.0).0)

ran_live : (schema next : Schema) (sql : List ℕ) (first : Database) (b c : State) (count : ℕ) → Extends sql schema next → IsGrown schema first b.now → IsLive b → ExecutesInside 0 sql [] b c (Ok count) → IsLive c
ran_live schema next sql first b c count lead it live h = λ _. ((lead first b c count it h.0).1, subst IsDatabase (sym h.1.committed_is) (live h.1.was_open).1)

module _ (schema next : Schema) (sql : List ℕ) (a b c : State) (before : Grows schema a b) (keeps : HasCleanDisk c → KeepsCommit b c) (survives : Survives b c (λ _. ⊥)) where
  early : HasCleanDisk c → HasCleanDisk b
  early clean = omega (arith, survives.clean)

  pub grows_next : (count : ℕ) → Extends sql schema next → (HasCleanDisk c → IsTrue b.in_transaction → ExecutesInside 0 sql [] b c (Ok count)) → Grows next a c
  grows_next count lead runs = record {
    made = λ clean inside has. (let was = before.made (early clean) inside has in ran_grown schema next sql a.now b c count lead was.1 (runs clean was.0));
    live = λ clean live inside has. (let was = before.made (early clean) inside has in ran_live schema next sql a.now b c count lead was.1 (before.live (early clean) live inside has) (runs clean was.0));
    uncommitted = λ clean. keeps_then a b c (before.uncommitted (early clean)) (keeps clean);
    survives = survives_both a b c before.survives survives;
  }

  -- a text that fails only by a fault
  pub grows_no_more : (e : Error) → FailsOnRows sql schema → (HasCleanDisk c → IsTrue b.in_transaction → ExecutesInside 0 sql [] b c (Err e)) → HasCleanDisk c → IsTrue a.in_transaction → a.now.schema ≡ first_schema → IsFault a c e
  grows_no_more e fails runs clean inside has = (let was = before.made (early clean) inside has in fault_since a b c e (early clean) before.survives survives (fails b c e was.1.schema_is (runs clean was.0)))

-- ---- all of them: the tables of this version

same_keeps : {X : Type 0} (a b : List Row) (to_row : X → Row) (key : X → ℤ) (xs : List X) → b ≡ a → Keeps a to_row key xs → Keeps b to_row key xs
same_keeps a b to_row key xs same it = subst (λ r. Keeps r to_row key xs) (sym same) it

pub grown_stands : (first db : Database) (t : Tables) → IsFirst first t → IsGrown registry_schema first db → Stands db t
grown_stands first db t was it = record {
  schema = it.schema_is;
  meta = it.kept.0 ∙ was.1.meta;
  holders = same_keeps (first.trees 1) (db.trees 1) _ _ _ it.kept.1.0 was.1.holders;
  accounts = same_keeps (first.trees 3) (db.trees 3) _ _ _ it.kept.1.1.0 was.1.accounts;
  devices = same_keeps (first.trees 4) (db.trees 4) _ _ _ it.kept.1.1.1.0 was.1.devices;
  declarations = same_keeps (first.trees 6) (db.trees 6) _ _ _ it.kept.1.1.1.1.0 was.1.declarations;
  lots = same_keeps (first.trees 8) (db.trees 8) _ _ _ it.kept.1.1.1.1.1.0 was.1.lots;
  pieces = same_keeps (first.trees 10) (db.trees 10) _ _ _ it.kept.1.1.1.1.1.1.0 was.1.pieces;
  peers = same_keeps (first.trees 11) (db.trees 11) _ _ _ it.kept.1.1.1.1.1.1.1.0 was.1.peers;
  receipts = same_keeps (first.trees 13) (db.trees 13) _ _ _ it.kept.1.1.1.1.1.1.1.1.0 was.1.receipts;
  cancellations = same_keeps (first.trees 15) (db.trees 15) _ _ _ it.kept.1.1.1.1.1.1.1.1.1.0 was.1.cancellations;
  withdrawals = same_keeps (first.trees 16) (db.trees 16) _ _ _ it.kept.1.1.1.1.1.1.1.1.1.1.0 was.1.withdrawals;
  notices_out = same_keeps (first.trees 17) (db.trees 17) _ _ _ it.kept.1.1.1.1.1.1.1.1.1.1.1.0 was.1.notices_out;
  notices_in = same_keeps (first.trees 18) (db.trees 18) _ _ _ it.kept.1.1.1.1.1.1.1.1.1.1.1.1.0 was.1.notices_in;
  corrections = same_keeps [] (db.trees 22) _ _ _ it.bare.0 was.1.corrections;
  device_carriers = same_keeps [] (db.trees 23) _ _ _ it.bare.1.0 was.1.device_carriers;
  lot_carriers = same_keeps [] (db.trees 25) _ _ _ it.bare.1.1.0 was.1.lot_carriers;
  devices_carried = was.1.devices_carried;
  lots_carried = was.1.lots_carried;
}
