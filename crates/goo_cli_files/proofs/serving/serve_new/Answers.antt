use Rattle.std.proofs.Common.{◌≡◌, false, inl, refl, subst, sym}
use Rattle.sqlite.specs.Held.{state as view}
use Rattle.sqlite_trees.specs.View.{doubt}
use Rattle.goo_spec.specs.Created.{created}
use Rattle.goo_spec.specs.Sound.{IsSound}
use Rattle.goo_spec.specs.State.{State}
use Rattle.goo_store_judge.specs.Moments.{moment}
use Rattle.goo_cli_ending.specs.declared.ending.Ending.TheVariants.{Failed}
use Rattle.goo_cli_ending.specs.declared.ending.Failure.{Failure}
use Rattle.goo_cli_registry.specs.Openings.{IsRun}
use Rattle.goo_cli_registry.proofs.Files.{not_run, unmade_failure}
use Rattle.goo_desk_server.specs.Runs.{KeepsPromise}
use Rattle.goo_registry.specs.Desks.{seen_of}
use Rattle.goo_desk_backend.specs.Showing.{begun_by, imported_by, shown_by}
use Rattle.goo_desk_server.proofs.Connecting.{serves_honest}
use Rattle.goo_cli_files.specs.ServesConnections.{ServesNew}
use Rattle.goo_cli_files.proofs.DurableLemmas.{new_served}
use Rattle.goo_cli_files.proofs.Served.{none_counted, of_fault}
use Rattle.goo_cli_files.proofs.serving.serve_new.Goals as goal

-- nothing is accepted where there is no registry
pub returns-in-Err-clause-counted : goal.returns-in-Err-clause-counted
returns-in-Err-clause-counted g c = none_counted _ (g.L.Listener.clients c.args.listener.now).accepted (g.L.Listener.clients c.args.listener.now).accepted c.args.serving.count refl

-- the registry that was made is the one that served, and its database is what is handed back
pub returns-in-Ok-clause-promised : goal.returns-in-Ok-clause-promised
returns-in-Ok-clause-promised g c run =
    let sends = (g.L.Listener.clients c.args.listener.now).sends in
    let was = (g.L.Listener.clients c.args.listener.now).accepted in
    let now = (g.L.Listener.clients c.serve_registry-ending.new.listener).accepted in
    let new = created c.args.opening.code c.args.opening.today c.args.opening.next_serial in
    subst (λ conn. (moment (view g.S.Store conn) false).corruptions ≡ 0 → (moment (view g.S.Store conn) false).defects ≡ 0 → KeepsPromise sends was now new (moment (view g.S.Store conn) false).state) (sym c.into_connection.ensures.conn)
    (subst (λ shelf. (moment (view g.S.Store shelf.conn) false).corruptions ≡ 0 → (moment (view g.S.Store shelf.conn) false).defects ≡ 0 → KeepsPromise sends was now new (moment (view g.S.Store shelf.conn) false).state) (sym c.into_shelf.ensures)
    (λ low none.
    let before = subst (λ shelf. doubt (view g.S.Store shelf.conn).is_clean ≡ 0) c.new-registry.ensures (serves_honest shown_by imported_by begun_by _ _ _ _ _ c.serve_registry-ending.ensures.serves low) in
    let ready = c.in-Ok.ensures.ready.works before in
    subst (λ (s : State). KeepsPromise sends was now s (moment (view g.S.Store c.serve_registry-ending.new.registry.shelf.conn) false).state) (subst (λ shelf. (moment (view g.S.Store shelf.conn) shelf.refused).state ≡ new) (sym c.new-registry.ensures) (c.in-Ok.ensures.state ready))
    (c.serve_registry-ending.ensures.promised (subst (λ shelf. IsSound (moment (view g.S.Store shelf.conn) shelf.refused).state) (sym c.new-registry.ensures) (c.in-Ok.ensures.sound ready)) low none)))

-- a fault of opening is told of no connection
pub returns-in-Err-clause-promised : goal.returns-in-Err-clause-promised
returns-in-Err-clause-promised g c run = absurd (not_run c.in-Err.fault (subst (λ (why : Failure). IsRun (Failed why)) c.failure_of.ensures run))

pub returns-in-Ok-clause-serves : goal.returns-in-Ok-clause-serves
returns-in-Ok-clause-serves g c =
    let from = g.L.Listener.clients c.args.listener.now in
    let now = g.L.Listener.clients c.serve_registry-ending.new.listener in
    let new = created c.args.opening.code c.args.opening.today c.args.opening.next_serial in
    subst (λ conn. (moment (view g.S.Store conn) false).corruptions ≡ 0 → ServesNew from now new) (sym c.into_connection.ensures.conn)
    (subst (λ shelf. (moment (view g.S.Store shelf.conn) false).corruptions ≡ 0 → ServesNew from now new) (sym c.into_shelf.ensures)
    (λ low.
    let before = subst (λ shelf. doubt (view g.S.Store shelf.conn).is_clean ≡ 0) c.new-registry.ensures (serves_honest shown_by imported_by begun_by _ _ _ _ _ c.serve_registry-ending.ensures.serves low) in
    let ready = c.in-Ok.ensures.ready.works before in
    let shelf = c.serve_registry-ending.new.registry.shelf in
    new_served from now (seen_of (moment (view g.S.Store c.new-registry.result.shelf.conn) c.new-registry.result.shelf.refused)) (moment (view g.S.Store shelf.conn) shelf.refused) new
    (subst (λ shelf. (moment (view g.S.Store shelf.conn) shelf.refused).state ≡ new) (sym c.new-registry.ensures) (c.in-Ok.ensures.state ready))
    (subst (λ shelf. (moment (view g.S.Store shelf.conn) shelf.refused).defects ≡ 0) (sym c.new-registry.ensures) ready) low c.serve_registry-ending.ensures.serves))

pub returns-in-Err-clause-serves : goal.returns-in-Err-clause-serves
returns-in-Err-clause-serves g c low = inl refl

pub returns-in-Err-clause-words : goal.returns-in-Err-clause-words
returns-in-Err-clause-words g c = of_fault c.failure_of.result (unmade_failure c.in-Err.fault c.failure_of.result c.failure_of.ensures c.in-Err.ensures.words)
