-- What the next opening finds of a registry into which rows were imported, or that served connections.
use Rattle.std.proofs.Common.{◌≡◌, inr, subst, ℕ, List, Option}
use Rattle.sqlite_disk.specs.declared.Disk.{Ghosts}
use Rattle.sqlite_wal.specs.Reads.{AreClean}
use Rattle.sqlite.specs.declared.file.Leftover.TheVariants as rest
use Rattle.goo_spec.specs.State.{State}
use Rattle.goo_core_shelf.specs.Shelf.{Moment}
use Rattle.goo_registry.specs.Desks.{seen_of}
use Rattle.goo_core_shelf.specs.Desk.{Seen}
use Rattle.goo_desk_listener.specs.Clients.{Clients}
use Rattle.goo_desk_backend.specs.Showing.{begun_by, imported_by, shown_by}
use Rattle.goo_desk_server.proofs.Connecting.{serves_fewer}
use Rattle.goo_cli_files.specs.ServesConnections.{nothing_kept, ServesConnections, ServesNew, ServesTo}
use Rattle.goo_cli_registry.specs.Closings.{HoldState, IfWhole}
use Rattle.goo_cli_registry.specs.Finds.{FindsRight, IfParts}
use Rattle.goo_cli_registry.specs.declared.closing.Left.{Left}
use Rattle.goo_cli_registry.specs.declared.closing.Left.TheVariants.{Parts, Refused, Whole}
use Rattle.goo_cli_registry.proofs.DurableLemmas.{in_file, one_of, opened, sure_state}
use Rattle.goo_cli_ending.specs.Runs.{HasState, MayFind}
use Rattle.goo_cli_ending.specs.declared.ending.Ending.{Ending}
use Rattle.goo_cli_registry.specs.Durable.{IfOpened, IsInFile, MayOpen}
use Rattle.goo_cli_texts.specs.Declaring.{DeclaresRows}
use Rattle.goo_cli_files.specs.Durable.{IsLeftToFind, MayBeFound}

-- what a registry over the files says of rows, said of the files
pub rows_in : {D : Type 0} {g : Ghosts D} (of : Left D g) (told : Ending) (old new : Moment) (had has before after : Option (List ℕ)) → DeclaresRows told old.state had has (HasState told (seen_of new)) (MayFind (seen_of old) new.leaves) before after → old.defects ≡ 0
    → IfWhole of (λ files. HoldState g files new.state) → IfWhole of (λ files. AreClean g files.log files.db → new.defects ≡ 0) → IfParts of (FindsRight new.leaves) → DeclaresRows told old.state had has (IsInFile of) (MayOpen of) before after
rows_in of told old new had has before after it none whole sure parts = record {
  input = it.input;
  given = it.given;
  rows = it.rows;
  upto = it.upto;
  are = it.are;
  tells = it.tells;
  written = it.written;
  holds = in_file of new _ (sure_state told (seen_of new) _ it.holds) whole sure;
  promised = it.promised;
  found = one_of of _ _ new (sure_state told (seen_of new) _ it.holds) (it.found none) whole sure parts;
}

-- from the state that the files held, where a registry was opened
pub rows_from : {D : Type 0} {g : Ghosts D} (of : Left D g) (told : Ending) (old new : Moment) (begun : State) (had has before after : Option (List ℕ)) → old.state ≡ begun → DeclaresRows told old.state had has (HasState told (seen_of new)) (MayFind (seen_of old) new.leaves) before after
    → old.defects ≡ 0 → IfWhole of (λ files. HoldState g files new.state) → IfWhole of (λ files. AreClean g files.log files.db → new.defects ≡ 0) → IfParts of (FindsRight new.leaves) → IfOpened of (DeclaresRows told begun had has (IsInFile of) (MayOpen of) before after)
rows_from of told old new begun had has before after same it none whole sure parts =
    opened of _ (subst (λ (s : State). DeclaresRows told s had has (IsInFile of) (MayOpen of) before after) same (rows_in of told old new had has before after it none whole sure parts))

pub connections_served : {D : Type 0} {g : Ghosts D} (of : Left D g) (from now : Clients) (first : Seen) (new : Moment) (begun : State) → first.state ≡ begun → first.defects ≡ 0 → new.corruptions ≡ 0
    → ServesTo from now first (seen_of new) new.leaves → IfParts of (FindsRight new.leaves) → IfOpened of (ServesConnections from now begun (IsLeftToFind of))
connections_served (Whole files) from now first new begun same sure low serves parts = record {
  first = first;
  last = seen_of new;
  begun = same;
  sure = sure;
  honest = low;
  serves = serves_fewer shown_by imported_by begun_by from now first (seen_of new) new.leaves nothing_kept (λ o none. absurd none) serves;
}
connections_served (Refused left) from now first new begun same sure low serves parts = tt
connections_served (Parts (rest.Files files)) from now first new begun same sure low serves parts = absurd parts
connections_served (Parts (rest.Unopened files)) from now first new begun same sure low serves parts = absurd parts
connections_served (Parts (rest.Store it)) from now first new begun same sure low serves parts = record {
  first = first;
  last = seen_of new;
  begun = same;
  sure = sure;
  honest = low;
  serves = serves_fewer shown_by imported_by begun_by from now first (seen_of new) new.leaves (MayBeFound (rest.Store it)) (λ o may. parts may.0 may.1 o may.2) serves;
}

-- of a registry that no file keeps
pub new_served : (from now : Clients) (first : Seen) (new : Moment) (begun : State) → first.state ≡ begun → first.defects ≡ 0 → new.corruptions ≡ 0 → ServesTo from now first (seen_of new) new.leaves → ServesNew from now begun
new_served from now first new begun same sure low serves = inr (record {
  first = first;
  last = seen_of new;
  begun = same;
  sure = sure;
  honest = low;
  serves = serves_fewer shown_by imported_by begun_by from now first (seen_of new) new.leaves nothing_kept (λ o none. absurd none) serves;
})
