use Rattle.std.proofs.Common.{◌≡◌, ◌∙◌, ap, rules, subst}
use Rattle.goo_cli_ending.specs.Endings.{status_of}
use Rattle.goo_cli_ending.specs.declared.ending.Ending.{Ending}
use Rattle.goo_desk_listener.specs.Clients.{Clients, listening_at, loopback}
use Rattle.goo_registry.specs.Desks.{seen_of}
use Rattle.goo_desk_backend.specs.Showing.{begun_by, imported_by, shown_by}
use Rattle.goo_desk_backend.proofs.TableFacts.{imports_are_runs}
use Rattle.goo_desk_server.proofs.Connecting.{listened, none_served, still_listening}
use Rattle.goo_desk_server.proofs.Running.{serves_promised}
use Rattle.goo_cli_files.proofs.Served.{counted_from, if_done, kept_from, none_counted}
use Rattle.goo_cli_files.proofs.serve_registry.serve_registry.Goals as goal

pub returns-clause-promised : goal.returns-clause-promised
returns-clause-promised g c sound honest sure =
    kept_from (g.L.Listener.clients c.args.listener.now) (g.L.Listener.clients c.listen.new.self) _ _ _ c.listen.ensures.kept (c.serve-served.ensures.promised imports_are_runs sound honest sure)

pub returns-clause-counted : goal.returns-clause-counted
returns-clause-counted g c =
    counted_from c.ending_of.result c.serve-served.result (g.L.Listener.clients c.args.listener.now).accepted (g.L.Listener.clients c.listen.new.self).accepted (g.L.Listener.clients c.serve-served.new.listener).accepted c.args.serving.count
    c.ending_of.ensures.value (ap (λ (k : Clients). k.accepted) c.listen.ensures.kept) c.serve-served.ensures.serves.counted

pub returns-clause-serves : goal.returns-clause-serves
returns-clause-serves g c =
    listened shown_by imported_by begun_by (g.L.Listener.clients c.args.listener.now) (g.L.Listener.clients c.listen.new.self) (g.L.Listener.clients c.serve-served.new.listener)
    (seen_of (g.S.Shelf.seen c.args.registry.now.shelf)) (seen_of (g.S.Shelf.seen c.serve-served.new.desk.shelf)) (g.S.Shelf.seen c.serve-served.new.desk.shelf).leaves c.listen.ensures.kept c.serve-served.ensures.serves.serves

-- where the port can't be had nothing is accepted
pub returns-then-is_err-clause-counted : goal.returns-then-is_err-clause-counted
returns-then-is_err-clause-counted g c =
    none_counted _ (g.L.Listener.clients c.args.listener.now).accepted (g.L.Listener.clients c.listen.new.self).accepted c.args.serving.count (ap (λ (k : Clients). k.accepted) c.listen.ensures.kept)

pub returns-then-is_err-clause-serves : goal.returns-then-is_err-clause-serves
returns-then-is_err-clause-serves g c =
    let shelf = c.args.registry.now.shelf in
    none_served shown_by imported_by begun_by (g.L.Listener.clients c.args.listener.now) (g.L.Listener.clients c.listen.new.self) (seen_of (g.S.Shelf.seen shelf)) (g.S.Shelf.seen shelf).leaves
    (ap (λ (k : Clients). k.accepted) c.listen.ensures.kept) (still_listening _ _ c.listen.ensures.kept) (g.met.S.Shelf.settled shelf)

pub returns-then-is_err-clause-promised : goal.returns-then-is_err-clause-promised
returns-then-is_err-clause-promised g c sound honest sure =
    let shelf = c.args.registry.now.shelf in
    let from = g.L.Listener.clients c.args.listener.now in
    let now = g.L.Listener.clients c.listen.new.self in
    serves_promised shown_by imported_by begun_by imports_are_runs from now (seen_of (g.S.Shelf.seen shelf)) (seen_of (g.S.Shelf.seen shelf)) (g.S.Shelf.seen shelf).leaves
    (none_served shown_by imported_by begun_by from now (seen_of (g.S.Shelf.seen shelf)) (g.S.Shelf.seen shelf).leaves (ap (λ (k : Clients). k.accepted) c.listen.ensures.kept) (still_listening from now c.listen.ensures.kept) (g.met.S.Shelf.settled shelf))
    sound honest sure

-- all was done: it was told where it listens
pub returns-clause-announced : goal.returns-clause-announced
returns-clause-announced g c status =
    let listening : g.L.Listener.clients c.listen.new.self ≡ listening_at loopback c.args.serving.port (g.L.Listener.clients c.args.listener.now) = search rules in
    record {
      at_is = c.serve-served.ensures.serves.at ∙ ap (λ (k : Clients). k.at) listening;
      line = if_done c.serve-served.result _ (subst (λ (e : Ending). status_of e ≡ 0) c.ending_of.ensures.value status) c.serve-served.ensures.announced;
    }

pub returns-clause-flushed : goal.returns-clause-flushed
returns-clause-flushed g c status = if_done c.serve-served.result _ (subst (λ (e : Ending). status_of e ≡ 0) c.ending_of.ensures.value status) c.serve-served.ensures.flushed
