-- Two statements, one after the other, in a transaction.
use Rattle.std.proofs.Common.{◌≡◌, ◌⊎◌, inl, inr, ℕ, List, [], slice_get, Option, Some, Ok, Err, Result, OnOk, IfErr, IsTrue, arith}
use Rattle.sqlite.specs.declared.error.Error.{Error}
use Rattle.sqlite.specs.Order.{Row}
use Rattle.sqlite.specs.Term.{Term}
use Rattle.sqlite.specs.State.{State, HasCleanDisk, Survives, ExecutesInside}
use Rattle.sqlite_rules.specs.Action.{works}
use Rattle.sqlite_schema.specs.declared.schema.Column.{Column}
use Rattle.sqlite_schema.specs.declared.schema.Keys.TheVariants.{Enforced}
use Rattle.sqlite_value.specs.declared.keys.Order.{Order}
use Rattle.goo_tables_rows.specs.Columns.{registry_schema, strict_table}
use Rattle.goo_tables_rows.specs.Refused.{IsFault}
use Rattle.goo_tables_rows.proofs.Writing.{inserts}
use Rattle.goo_tables_accounts.proofs.Adding.{Adds}
use Rattle.goo_tables.proofs.Creating.{fault_since}

-- an INSERT that succeeds leaves the transaction open, on our tables
module _ {sql : List ℕ} {terms : List Term} {at width given : ℕ} (adds : Adds sql at terms width given) {tree : ℕ} {name : List ℕ} {key_column : Option ℕ} {primary : List ℕ} {uniques : List (List ℕ)} {orders : List Order} {columns : List Column}
    (found : slice_get registry_schema.tables at ≡ Some (strict_table name tree key_column primary uniques orders columns)) (childless : (olds news : List Row) → works registry_schema Enforced 0 tree olds news ≡ []) where
  pub stays_ours : (params : Row) (old new : State) → old.now.schema ≡ registry_schema → (r : Result ℕ Error) → ExecutesInside 0 sql params old new r → OnOk r (IsTrue new.in_transaction × (new.now.schema ≡ registry_schema))
  stays_ours params old new has (Err e) ran = tt
  stays_ours params old new has (Ok count) ran =
      (ran.1.mode, (inserts registry_schema at name tree key_column primary uniques orders columns found childless sql params old new has adds.plain terms width adds.is count ran.0).schema_is)

module _ (a b c : State) (first : Survives a b (λ _. ⊥)) (next : Survives b c (λ _. ⊥)) where
  pub early : HasCleanDisk c → HasCleanDisk b
  early clean = omega (arith, next.clean, clean)

  -- what the second may answer, told of both
  pub fails_second : {X : Type 0} (May : Error → Type 0) (r : Result X Error) (Room Left : Type 0) → (Room → Left) → HasCleanDisk c → IfErr r (λ e. IsFault b c e ⊎ (May e × (Left → ⊥))) → IfErr r (λ e. IsFault a c e ⊎ (May e × (Room → ⊥)))
  fails_second May (Ok x) Room Left leaves clean h = tt
  fails_second May (Err e) Room Left leaves clean (inl fault) = inl (fault_since a b c e (early clean) first next fault)
  fails_second May (Err e) Room Left leaves clean (inr other) = inr (other.0, λ room. other.1 (leaves room))

-- what one may answer, where there is less room
pub fails_alone : {X : Type 0} (P May : Error → Type 0) (r : Result X Error) (Room Left : Type 0) → (Room → Left) → IfErr r (λ e. P e ⊎ (May e × (Left → ⊥))) → IfErr r (λ e. P e ⊎ (May e × (Room → ⊥)))
fails_alone P May (Ok x) Room Left leaves h = tt
fails_alone P May (Err e) Room Left leaves (inl fault) = inl fault
fails_alone P May (Err e) Room Left leaves (inr other) = inr (other.0, λ room. other.1 (leaves room))
