use Rattle.std.proofs.Common.{◌≡◌, refl, subst, sym}
use Rattle.sqlite.specs.Files.{file_state}
use Rattle.sqlite_trees.specs.View.{doubt}
use Rattle.std.proofs.KnownBytes.{Keeps-refl}
use Rattle.sqlite_wal.specs.Reads.{AreClean}
use Rattle.goo_spec.specs.Sound.{IsSound}
use Rattle.goo_store_opening.specs.Versions.{state_held}
use Rattle.goo_store_judge.specs.Moments.{moment}
use Rattle.goo_cli_files.proofs.Served.{none_counted}
use Rattle.goo_registry.specs.Desks.{seen_of}
use Rattle.goo_cli_registry.specs.Closings.{HoldState, IfWhole}
use Rattle.goo_cli_registry.specs.Finds.{FindsRight, IfParts}
use Rattle.goo_cli_registry.proofs.DurableLemmas.{opened}
use Rattle.goo_desk_backend.specs.Showing.{begun_by, imported_by, shown_by}
use Rattle.goo_desk_server.proofs.Connecting.{serves_honest}
use Rattle.goo_cli_files.proofs.DurableLemmas.{connections_served}
use Rattle.goo_cli_files.proofs.Begun.{not_refused, served_promised}
use Rattle.goo_cli_files.proofs.serving.serve_in_files.Goals as goal

pub returns-in-Ok-clause-promised : goal.returns-in-Ok-clause-promised
returns-in-Ok-clause-promised g c = λ clean db holds.
    let low = subst (λ shelf. doubt (file_state shelf.conn).is_clean ≡ 0) c.into_shelf.ensures (c.close_registry.ensures.clean clean) in
    let before = subst (λ shelf. doubt (file_state shelf.conn).is_clean ≡ 0) c.new-registry.ensures (serves_honest shown_by imported_by begun_by _ _ _ _ _ c.serve_registry-ending.ensures.serves low) in
    served_promised c.close_registry.result _ _ _ _ _ _ _
    (subst (λ shelf. (moment (file_state shelf.conn) shelf.refused).state ≡ state_held db) (sym c.new-registry.ensures) (c.in-Ok.ensures.state db holds (c.in-Ok.ensures.ready.works before)))
    (c.serve_registry-ending.ensures.promised (subst (λ shelf. IsSound (moment (file_state shelf.conn) shelf.refused).state) (sym c.new-registry.ensures) (c.in-Ok.ensures.sound (c.in-Ok.ensures.ready.works before))) low)
    (subst (λ shelf. IfWhole c.close_registry.result (λ files. HoldState g.D.Disk files (moment (file_state shelf.conn) shelf.refused).state)) c.into_shelf.ensures c.close_registry.ensures.whole)
    (subst (λ shelf. IfWhole c.close_registry.result (λ files. AreClean g.D.Disk files.log files.db → (moment (file_state shelf.conn) shelf.refused).defects ≡ 0)) c.into_shelf.ensures c.close_registry.ensures.sure)

pub returns-in-Ok-clause-turned_away : goal.returns-in-Ok-clause-turned_away
returns-in-Ok-clause-turned_away g c clean = not_refused c.close_registry.result _ c.close_registry.ensures.opened

-- nothing is accepted where there is no registry
pub returns-in-Err-clause-counted : goal.returns-in-Err-clause-counted
returns-in-Err-clause-counted g c = none_counted _ (g.L.Listener.clients c.args.listener.now).accepted (g.L.Listener.clients c.args.listener.now).accepted c.args.serving.count refl

pub returns-in-Ok-clause-serves : goal.returns-in-Ok-clause-serves
returns-in-Ok-clause-serves g c = λ clean db holds.
    let low = subst (λ shelf. doubt (file_state shelf.conn).is_clean ≡ 0) c.into_shelf.ensures (c.close_registry.ensures.clean clean) in
    let before = subst (λ shelf. doubt (file_state shelf.conn).is_clean ≡ 0) c.new-registry.ensures (serves_honest shown_by imported_by begun_by _ _ _ _ _ c.serve_registry-ending.ensures.serves low) in
    let none = c.in-Ok.ensures.ready.works before in
    connections_served c.close_registry.result _ _ (seen_of (moment (file_state c.new-registry.result.shelf.conn) c.new-registry.result.shelf.refused))
    (moment (file_state c.serve_registry-ending.new.registry.shelf.conn) c.serve_registry-ending.new.registry.shelf.refused) (state_held db)
    (subst (λ shelf. (moment (file_state shelf.conn) shelf.refused).state ≡ state_held db) (sym c.new-registry.ensures) (c.in-Ok.ensures.state db holds none))
    (subst (λ shelf. (moment (file_state shelf.conn) shelf.refused).defects ≡ 0) (sym c.new-registry.ensures) none)
    low c.serve_registry-ending.ensures.serves
    (subst (λ shelf. IfParts c.close_registry.result (FindsRight (moment (file_state shelf.conn) shelf.refused).leaves)) c.into_shelf.ensures c.close_registry.ensures.found)

pub returns-in-Err-clause-turned_away : goal.returns-in-Err-clause-turned_away
returns-in-Err-clause-turned_away g c clean = record { failure = c.in-Err.failure; tells = refl; why = c.in-Err.ensures.why clean; unharmed = c.in-Err.ensures.unharmed clean }

pub returns-in-Ok-clause-words : goal.returns-in-Ok-clause-words
returns-in-Ok-clause-words g c = opened c.close_registry.result _ c.serve_registry-ending.ensures.words

pub returns-in-Ok-clause-refused : goal.returns-in-Ok-clause-refused
returns-in-Ok-clause-refused g c = not_refused c.close_registry.result _ c.close_registry.ensures.opened

pub returns-in-Err-clause-refused : goal.returns-in-Err-clause-refused
returns-in-Err-clause-refused g c = record { unopened = record { word = c.in-Err.ensures.word; silent = Keeps-refl _ }; unheard = refl }
