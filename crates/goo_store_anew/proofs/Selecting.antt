-- That a SELECT has no RETURNING, whatever the schema.
use Rattle.std.proofs.Common.{◌≡◌, ℕ, Bool, true, false, if◌then◌else◌, ◌+◌, List, Option, None, Ok, Err, refl, sym, subst}
use Rattle.std.specs.Prelude.{⊤}
use Rattle.sqlite_ast.specs.declared.Statement.{Statement}
use Rattle.sqlite_ast.specs.declared.Statement.TheVariants as written
use Rattle.sqlite_syntax.specs.declared.statement.Parsed.{Parsed}
use Rattle.sqlite_schema.specs.declared.command.Command.{Command}
use Rattle.sqlite_schema.specs.declared.command.Returning.{Returning}
use Rattle.sqlite_resolve.specs.declared.compiled.Compiled.{Compiled}
use Rattle.sqlite_resolve.specs.Compile.{first, returning, command, meaning, planned, compiled, with_command, timed as timed_in, small}
use Rattle.sqlite_resolve.specs.Lowering.{Checked, and_then}
use Rattle.sqlite_resolve.specs.declared.error.CompileError.TheVariants.{NoSuchTable}
use Rattle.sqlite.specs.Schema.{Schema}
use Rattle.sqlite.specs.Listing.{understood, reads_listing, if_select, is_select, listing_schema}

-- it has no RETURNING, if it is understood
abbrev pub IsBare : Checked Compiled → Type 0
IsBare (Ok c) = c.returning ≡ None
IsBare (Err e) = ⊤

abbrev pub selects : Statement → Bool
selects (written.Select s) = true
selects _ = false

abbrev pub reads_alone : Checked Parsed → Bool
reads_alone (Ok p) = selects p.statement
reads_alone (Err e) = false

shows_nothing : (schema : Schema) (base : ℕ) (statement : Statement) → selects statement ≡ true → returning schema base statement ≡ Ok None
unfolding returning
shows_nothing schema base (written.Select s) is = refl
shows_nothing schema base _ is = absurd cc

module _ (p : Parsed) (formats : List (List ℕ)) where
  abbrev made : Checked Command → Checked (Option Returning) → Checked Compiled
  made does shown = and_then (and_then (and_then shown (λ s. and_then does (λ c. Ok (c, s)))) (λ found. Ok (formats, found))) (λ plan. Ok (with_command p plan))

  made_bare : (does : Checked Command) → IsBare (made does (Ok None))
  made_bare (Ok c) = refl
  made_bare (Err e) = tt

planned_bare : (schema : Schema) (p : Parsed) → selects p.statement ≡ true → IsBare (and_then (planned schema p) (λ plan. Ok (with_command p plan)))
unfolding planned meaning
planned_bare schema p is =
    let formats = timed_in schema p.formats p.statement in
    let base = small p.names + small formats in
    let does = command schema p.formats base p.statement in
    subst (λ shown. IsBare (made p formats does shown)) (sym (shows_nothing schema base p.statement is)) (made_bare p formats does)

compiled_bare : (schema : Schema) (sql : List ℕ) → reads_alone (first sql) ≡ true → IsBare (compiled schema sql)
unfolding compiled
compiled_bare schema sql = elim (first sql) as (λ r. reads_alone r ≡ true → IsBare (and_then r (λ p. and_then (planned schema p) (λ plan. Ok (with_command p plan))))) [
  | Ok p ↦ λ is. planned_bare schema p is
  | Err e ↦ λ is. tt
]

listed_bare : (r : Checked Compiled) → IsBare r → IsBare (if_select r)
listed_bare (Ok c) bare = go (is_select c.command)
  where
    go : (b : Bool) → IsBare (if b then Ok c else Err NoSuchTable)
    go true = bare
    go false = tt
listed_bare (Err e) bare = tt

pub understood_bare : (schema : Schema) (sql : List ℕ) → reads_alone (first sql) ≡ true → IsBare (understood schema sql)
unfolding understood
understood_bare schema sql is = go (reads_listing schema sql)
  where
    go : (b : Bool) → IsBare (if b then if_select (compiled listing_schema sql) else compiled schema sql)
    go true = listed_bare (compiled listing_schema sql) (compiled_bare listing_schema sql is)
    go false = compiled_bare schema sql is
