-- A change that succeeds leaves a database.
use Rattle.std.proofs.Common.{◌≡◌, ℕ, true, None, List, Ok, Err, Result, OnOk, sym, subst}
use Rattle.sqlite.specs.Order.{Row}
use Rattle.sqlite.specs.Command.{Command}
use Rattle.sqlite.specs.Command.TheVariants.{Insert, Update, Delete}
use Rattle.sqlite.specs.Effect.{IsDatabase}
use Rattle.sqlite.specs.Listing.{understood}
use Rattle.sqlite.specs.State.{State, IsLive, Runs, ExecutesInside}
use Rattle.sqlite.specs.declared.error.Error.{Error}
use Rattle.sqlite.proofs.Callers.{IsPlain, command_of, statement_of, runs_as}
use Rattle.goo_tables_rows.specs.Columns.{registry_schema}
use Rattle.goo_tables_rows.specs.Lives.{IsAlive}
use Rattle.goo_tables_rows.proofs.Failing.{writes_rows}

sound_of : (command : Command) → writes_rows command ≡ true → (old new : State) (text : List ℕ) (params : Row) (count : ℕ) → Runs old new None command text params count → IsDatabase new.now
sound_of (Insert at from) rows old new text params count w = w.sound
sound_of (Update at q) rows old new text params count w = w.sound
sound_of (Delete at q) rows old new text params count w = w.sound
sound_of _ rows old new text params count w = absurd (let e = rows in cc)

-- whatever values the text is given
abbrev pub KeepsLive : List ℕ → Type 1
KeepsLive sql = (params : Row) (old new : State) → old.now.schema ≡ registry_schema → IsLive old → (r : Result ℕ Error) → ExecutesInside 0 sql params old new r → OnOk r (IsAlive new)

-- the text is one statement that writes rows
pub keeps_live : (sql : List ℕ) (command : Command) → command_of (understood registry_schema sql) ≡ command → IsPlain (understood registry_schema sql) → writes_rows command ≡ true → KeepsLive sql
keeps_live sql command is plain rows params old new has live (Err e) ran = tt
keeps_live sql command is plain rows params old new has live (Ok count) ran =
    let w = runs_as sql params old new registry_schema has command is plain count ran.0 in
    (ran.1.is_open, λ _. (sound_of command rows old new (statement_of sql (understood registry_schema sql)) params count w, subst IsDatabase (sym ran.1.committed_is) (live ran.1.was_open).1))
