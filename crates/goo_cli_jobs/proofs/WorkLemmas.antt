-- What is done with a registry, by what the command that does it says.
use Rattle.std.proofs.Common.{◌≡◌, List, ℕ, Option, None}
use Rattle.std.specs.FinMap.{get}
use Rattle.std.specs.Io.KnownBytes.{Keeps}
use Rattle.sqlite_disk.specs.declared.Disk.{Ghosts}
use Rattle.sqlite.specs.Tree.{Trees}
use Rattle.goo_store_opening.specs.Versions.{state_held}
use Rattle.goo_spec.specs.State.{State}
use Rattle.goo_spec.specs.Sound.{IsSound}
use Rattle.goo_files.specs.Texts.{IsAuditText, IsStatement}
use Rattle.goo_files.specs.Writes.{Began, Wrote}
use Rattle.goo_cli_ending.specs.declared.ending.Ending.{Ending}
use Rattle.goo_cli_registry.specs.Closings.{HoldsSome, IfRefused}
use Rattle.goo_cli_registry.specs.Finds.{Begins, HasState}
use Rattle.goo_cli_registry.specs.Durable.{IfOpened, IsInFile, IsUnbegun, IsUnopened, MayOpen}
use Rattle.goo_cli_texts.specs.Declaring.{DeclaresRows}
use Rattle.goo_cli_registry.specs.declared.closing.Left.{Left}
use Rattle.goo_cli_registry.specs.declared.closing.Left.TheVariants as left
use Rattle.goo_desk_listener.specs.Clients.{Clients}
use Rattle.goo_cli_files.specs.ServerEndings.{IsCounted, IsOfServer}
use Rattle.goo_cli_files.specs.ServesConnections.{IsAnnounced, IsUnserved, ServesConnections}
use Rattle.goo_desk_server.specs.Runs as serving
use Rattle.goo_cli_ending.specs.Endings.{IsOfLines, status_of}
use Rattle.goo_cli_texts.specs.Endings.{IsOfImport, IsOfText}
use Rattle.goo_cli_ending.specs.Runs.{RunsInput}
use Rattle.goo_cli_files.specs.Durable.{IsLeftToFind}
use Rattle.goo_cli_jobs.specs.Works.{AreAnswered, AreImported, IsAudited, IsServed, IsStated}

-- what a registry begins with is sound
pub sound_of : {D : Type 0} {g : Ghosts D} (rest : Left D g) (db : Trees) → IfOpened rest (Begins db) → IfOpened rest (IsSound (state_held db))
sound_of (left.Whole files) db begins = begins.sound
sound_of (left.Refused rest) db begins = tt
sound_of (left.Parts rest) db begins = begins.sound

pub answered : {D : Type 0} {g : Ghosts D} (s : State) (before after had has : Option (List ℕ)) (told : Ending) (rest : Left D g) → IfOpened rest (RunsInput told s had has (IsInFile rest) (MayOpen rest) before after) → IfOpened rest (IsSound s)
    → IfOpened rest (IsOfLines told) → IfRefused rest (λ _. IsUnbegun told had has before after) → AreAnswered s before after had has told rest
answered s before after had has told rest runs sound words refused = record { runs = runs; sound = sound; words = words; refused = refused }

pub imported : {D : Type 0} {g : Ghosts D} (s : State) (before after had has : Option (List ℕ)) (told : Ending) (rest : Left D g) → IfOpened rest (DeclaresRows told s had has (IsInFile rest) (MayOpen rest) before after) → IfOpened rest (IsSound s)
    → IfOpened rest (IsOfImport told) → IfRefused rest (λ _. IsUnbegun told had has before after) → AreImported s before after had has told rest
imported s before after had has told rest runs sound words refused = record { runs = runs; sound = sound; words = words; refused = refused }

pub stated : {D : Type 0} {g : Ghosts D} (s : State) (before after had has : Option (List ℕ)) (told : Ending) (rest : Left D g) (account : ℕ) → (status_of told ≡ 0 → Wrote had has (IsStatement s account)) → (status_of told ≡ 1 → get s.accounts account ≡ None)
    → (status_of told ≡ 1 → Keeps had has) → (status_of told ≡ 3 → Began had has (IsStatement s account)) → HasState s rest → IfOpened rest (IsOfText told) → IfRefused rest (λ _. IsUnopened told had has) → IsStated s before after had has told rest account
stated s before after had has told rest account shown unknown silent begun kept words refused = record { shown = shown; unknown = unknown; silent = silent; begun = begun; kept = kept; words = words; refused = refused }

pub audited : {D : Type 0} {g : Ghosts D} (s : State) (before after had has : Option (List ℕ)) (told : Ending) (rest : Left D g) → (status_of told ≡ 0 → Wrote had has (IsAuditText s)) → (status_of told ≡ 1 → Keeps had has)
    → (status_of told ≡ 3 → Began had has (IsAuditText s)) → HasState s rest → IfOpened rest (IsOfText told) → IfRefused rest (λ _. IsUnopened told had has) → IsAudited s before after had has told rest
audited s before after had has told rest shown silent begun kept words refused = record { shown = shown; silent = silent; begun = begun; kept = kept; words = words; refused = refused }

pub served : {D : Type 0} {g : Ghosts D} (s : State) (before after had has : Option (List ℕ)) (told : Ending) (rest : Left D g) (from now : Clients) (port count : ℕ) → (status_of told ≡ 0 → IsAnnounced port now.at had has)
    → IsCounted told from.accepted now.accepted count → HoldsSome rest (serving.KeepsPromise from.sends from.accepted now.accepted s) → IfOpened rest (ServesConnections from now s (IsLeftToFind rest)) → IfOpened rest (IsOfServer told) → IfRefused rest (λ _. IsUnserved told had has from now) → IsServed s before after had has told rest from now port count
served s before after had has told rest from now port count announced counted promised serves words refused = record { announced = announced; counted = counted; promised = promised; serves = serves; words = words; refused = refused }
