-- A text that asks our tables, or those of version 1: what is computed of it, and what a call that asks it does.
use Rattle.std.proofs.Common.{◌≡◌, ◌⊎◌, IsTrue, IfOk, IfErr, ℕ, List, [], All, Result, true, false, None}
use Rattle.sqlite.specs.Order.{Row}
use Rattle.sqlite.specs.Query.{Query, IsAnswer}
use Rattle.sqlite.specs.Program.{overlay}
use Rattle.sqlite.specs.Command.TheVariants.{Select}
use Rattle.sqlite.specs.Listing.{understood, reads_listing}
use Rattle.sqlite.specs.State.{State, HasCleanDisk, Survives, CommitsShowing}
use Rattle.sqlite.specs.declared.error.Error.{Error}
use Rattle.sqlite.proofs.Callers.{IsPlain, command_of}
use Rattle.goo_tables_rows.specs.Asked.{Answered, IsRead, FailsToAsk, Gave, IsReadThrough, FailsToGive}
use Rattle.sqlite.specs.Effect.{Database}
use Rattle.goo_tables_rows.specs.Columns.{registry_schema, first_schema}
use Rattle.goo_tables_rows.specs.First.{IsFirst, HasFirstTables, ReadsFirst}
use Rattle.goo_tables_rows.specs.Met.{HasOurTables}
use Rattle.goo_tables_rows.specs.Readable.{is_read_error}
use Rattle.goo_tables_rows.specs.Refused.{IsFault, is_suited}
use Rattle.goo_tables_rows.specs.Rows.{Tables}
use Rattle.goo_tables_rows.specs.Stands.{Stands, Looks}
use Rattle.goo_tables_rows.proofs.Reading.{looks, looks_first, meets}
use Rattle.goo_tables_rows.proofs.Refusing.{fails_by, fails_readable}
use Rattle.goo_tables_rows.proofs.Through.{given_of, looks_through, looks_first_through, fails_through, fails_readable_through}

-- the text asks this query, and is one statement that parameters made so suit
pub record Asks {A : Type 0} (sql : List ℕ) (q : Query) (params : A → Row) : Type 0 where
  pub names : List (List ℕ)
  pub is : command_of (understood registry_schema sql) ≡ Select (record { lets = []; body = q }) names
  pub plain : IsPlain (understood registry_schema sql)
  pub unlisted : reads_listing registry_schema sql ≡ false
  pub suits : (a : A) → is_suited registry_schema sql q (params a) ≡ true

-- this is right of what is read of the rows that the query shows
abbrev pub Tells : {X : Type 0} → State → Query → Row → (X → List Row → Type 0) → (X → Type 0) → Type 0
Tells {X} old q params reads right = (x : X) (rows : List Row) → IsAnswer q (overlay old.now.trees []) params rows → reads x rows → right x

-- and of the tables that the database holds
abbrev pub Says : {X : Type 0} → State → Query → Row → (X → List Row → Type 0) → (Tables → X → Type 0) → Type 0
Says old q params reads right = (t : Tables) → Stands old.now t → Tells old q params reads (right t)

module _ {A X : Type 0} {sql : List ℕ} {q : Query} {params : A → Row} (asks : Asks sql q params) (a : A) (old new : State) (r : Result X Error) where
  pub looks_up : (R : X → List Row → Type 0) (right : Tables → X → Type 0) → Says old q (params a) R right
      → (HasCleanDisk new → IfOk r (λ x. Answered sql (params a) old new (R x))) → (HasCleanDisk new → IsRead sql (params a) old new) → Survives old new (CommitsShowing sql (params a) old) → Looks old new r right
  looks_up R right says = looks sql q asks.names asks.is asks.plain asks.unlisted (params a) old new R right says r

  -- whatever stands in our tables
  pub met : (R : X → List Row → Type 0) (right : X → Type 0) → HasOurTables old.now → Tells old q (params a) R right
      → IfOk r (λ x. Answered sql (params a) old new (R x)) → IfOk r right
  met R right it says = meets registry_schema sql q asks.names asks.is asks.plain asks.unlisted (params a) old new R right it.schema says r

  pub refused : (readable : Row → Type 0) → old.now.schema ≡ registry_schema → old.step_limit ≡ None → IfErr r (FailsToAsk sql (params a) old new readable) → IfErr r (λ e. IsFault old new e ⊎ IsTrue (is_read_error e))
  refused readable has unlimited = fails_by registry_schema sql q asks.names asks.is asks.plain asks.unlisted (params a) (asks.suits a) old new has unlimited readable r

  -- each row that the query shows can be read
  pub refused_readable : (readable : Row → Type 0) → old.now.schema ≡ registry_schema → old.step_limit ≡ None → ((rows : List Row) → IsAnswer q (overlay old.now.trees []) (params a) rows → All readable rows)
      → IfErr r (FailsToAsk sql (params a) old new readable) → IfErr r (IsFault old new)
  refused_readable readable has unlimited right = fails_readable registry_schema sql q asks.names asks.is asks.plain asks.unlisted (params a) (asks.suits a) old new has unlimited readable right r

-- ---- a whole table of version 1

-- the text asks this query of the tables of version 1, and is one statement without parameters
pub record AsksFirst (sql : List ℕ) (q : Query) : Type 0 where
  pub names : List (List ℕ)
  pub is : command_of (understood first_schema sql) ≡ Select (record { lets = []; body = q }) names
  pub plain : IsPlain (understood first_schema sql)
  pub unlisted : reads_listing first_schema sql ≡ false
  pub suits : is_suited first_schema sql q [] ≡ true

abbrev pub SaysFirst : {X : Type 0} → State → Query → (X → List Row → Type 0) → (Tables → X → Type 0) → Type 0
SaysFirst old q reads right = (t : Tables) → IsFirst old.now t → Tells old q [] reads (right t)

module _ {X : Type 0} {sql : List ℕ} {q : Query} (asks : AsksFirst sql q) (old new : State) (r : Result X Error) where
  pub reads_first : (R : X → List Row → Type 0) (right : Tables → X → Type 0) (Shows : Database → X → Type 0) (readable : Row → Type 0) (CanBeRead : Tables → Type 0)
      → SaysFirst old q R right → (HasFirstTables old.now → Tells old q [] R (Shows old.now)) → ((t : Tables) → IsFirst old.now t → CanBeRead t → (rows : List Row) → IsAnswer q (overlay old.now.trees []) [] rows → All readable rows)
      → (HasCleanDisk new → IfOk r (λ x. Answered sql [] old new (R x))) → (HasCleanDisk new → IsRead sql [] old new) → Survives old new (CommitsShowing sql [] old) → (HasCleanDisk new → IfErr r (FailsToAsk sql [] old new readable))
      → ReadsFirst old new r right Shows CanBeRead
  reads_first R right Shows readable CanBeRead says tells reads read ran survives fails = record {
    looks = looks_first sql q asks.names asks.is asks.plain asks.unlisted [] old new R right says r read ran survives;
    met = λ clean it. meets first_schema sql q asks.names asks.is asks.plain asks.unlisted [] old new R (Shows old.now) it.schema (tells it) r (read clean);
    refused = λ clean has unlimited. fails_by first_schema sql q asks.names asks.is asks.plain asks.unlisted [] asks.suits old new has unlimited readable r (fails clean);
    readable = λ clean unlimited t it can. fails_readable first_schema sql q asks.names asks.is asks.plain asks.unlisted [] asks.suits old new it.0 unlimited readable (reads t it can) r (fails clean);
  }

-- ---- a whole table that is read row by row

module _ {A X : Type 0} {sql : List ℕ} {q : Query} {params : A → Row} (asks : Asks sql q params) (a : A) (old new : State) (r : Result X Error) where
  pub looks_through_all : (R : X → List Row → Type 0) (right : Tables → X → Type 0) → Says old q (params a) R right
      → (HasCleanDisk new → IfOk r (λ x. Gave sql (params a) old new (R x))) → (HasCleanDisk new → IsReadThrough sql (params a) old new) → Survives old new (CommitsShowing sql (params a) old) → Looks old new r right
  looks_through_all R right says = looks_through sql q asks.names asks.is asks.plain asks.unlisted (params a) old new R right says r

  pub met_each : (R : X → List Row → Type 0) (right : X → Type 0) → HasOurTables old.now → Tells old q (params a) R right
      → IfOk r (λ x. Gave sql (params a) old new (R x)) → IfOk r right
  met_each R right it says h =
      meets registry_schema sql q asks.names asks.is asks.plain asks.unlisted (params a) old new R right it.schema says r (given_of registry_schema sql asks.plain (params a) old new it.schema R r h)

  pub refused_each : (readable : Row → Type 0) → old.now.schema ≡ registry_schema → old.step_limit ≡ None → IfErr r (FailsToGive sql (params a) old new readable) → IfErr r (λ e. IsFault old new e ⊎ IsTrue (is_read_error e))
  refused_each readable has unlimited = fails_through registry_schema sql q asks.names asks.is asks.plain asks.unlisted (params a) (asks.suits a) old new has unlimited readable r

  -- each row that the query shows can be read
  pub refused_readable_each : (readable : Row → Type 0) → old.now.schema ≡ registry_schema → old.step_limit ≡ None → ((rows : List Row) → IsAnswer q (overlay old.now.trees []) (params a) rows → All readable rows)
      → IfErr r (FailsToGive sql (params a) old new readable) → IfErr r (IsFault old new)
  refused_readable_each readable has unlimited right = fails_readable_through registry_schema sql q asks.names asks.is asks.plain asks.unlisted (params a) (asks.suits a) old new has unlimited readable right r

module _ {X : Type 0} {sql : List ℕ} {q : Query} (asks : AsksFirst sql q) (old new : State) (r : Result X Error) where
  pub reads_first_each : (R : X → List Row → Type 0) (right : Tables → X → Type 0) (Shows : Database → X → Type 0) (readable : Row → Type 0) (CanBeRead : Tables → Type 0)
      → SaysFirst old q R right → (HasFirstTables old.now → Tells old q [] R (Shows old.now)) → ((t : Tables) → IsFirst old.now t → CanBeRead t → (rows : List Row) → IsAnswer q (overlay old.now.trees []) [] rows → All readable rows)
      → (HasCleanDisk new → IfOk r (λ x. Gave sql [] old new (R x))) → (HasCleanDisk new → IsReadThrough sql [] old new) → Survives old new (CommitsShowing sql [] old) → (HasCleanDisk new → IfErr r (FailsToGive sql [] old new readable))
      → ReadsFirst old new r right Shows CanBeRead
  reads_first_each R right Shows readable CanBeRead says tells reads read ran survives fails = record {
    looks = looks_first_through sql q asks.names asks.is asks.plain asks.unlisted [] old new R right says r read ran survives;
    met = λ clean it. meets first_schema sql q asks.names asks.is asks.plain asks.unlisted [] old new R (Shows old.now) it.schema (tells it) r (given_of first_schema sql asks.plain [] old new it.schema R r (read clean));
    refused = λ clean has unlimited. fails_through first_schema sql q asks.names asks.is asks.plain asks.unlisted [] asks.suits old new has unlimited readable r (fails clean);
    readable = λ clean unlimited t it can. fails_readable_through first_schema sql q asks.names asks.is asks.plain asks.unlisted [] asks.suits old new it.0 unlimited readable (reads t it can) r (fails clean);
  }
