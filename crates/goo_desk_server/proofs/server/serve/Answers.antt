use Rattle.std.proofs.Common.{refl}
use Rattle.goo_desk_server.proofs.Connecting.{none_served, same_clients}
use Rattle.goo_desk_server.proofs.Running.{serves_promised}
use Rattle.goo_desk_server.proofs.server.serve.Goals as goal

-- nobody was told that it listens, or that could not be written
pub returns-in_default-clause-serves : goal.returns-in_default-clause-serves
returns-in_default-clause-serves g c =
    let clients = g.L.Listener.clients c.args.listener.now in
    record {
      serves = none_served g.D.Backend.shows g.D.Backend.imports g.D.Backend.begins clients clients (g.D.Desk.seen c.args.desk.now) (g.D.Desk.leaves c.args.desk.now) refl (same_clients clients) (g.met.D.Desk.settled c.args.desk.now);
      counted = refl;
      at = refl;
      told = λ none. none;
    }

pub returns-clause-serves : goal.returns-clause-serves
returns-clause-serves g c =
    let clients = g.L.Listener.clients c.args.listener.now in
    record {
      serves = none_served g.D.Backend.shows g.D.Backend.imports g.D.Backend.begins clients clients (g.D.Desk.seen c.args.desk.now) (g.D.Desk.leaves c.args.desk.now) refl (same_clients clients) (g.met.D.Desk.settled c.args.desk.now);
      counted = refl;
      at = refl;
      told = λ none. none;
    }

pub returns-in_default-clause-promised : goal.returns-in_default-clause-promised
returns-in_default-clause-promised g c runs sound honest sure =
    let clients = g.L.Listener.clients c.args.listener.now in
    serves_promised g.D.Backend.shows g.D.Backend.imports g.D.Backend.begins runs clients clients (g.D.Desk.seen c.args.desk.now) (g.D.Desk.seen c.args.desk.now) (g.D.Desk.leaves c.args.desk.now)
    (none_served g.D.Backend.shows g.D.Backend.imports g.D.Backend.begins clients clients (g.D.Desk.seen c.args.desk.now) (g.D.Desk.leaves c.args.desk.now) refl (same_clients clients) (g.met.D.Desk.settled c.args.desk.now)) sound honest sure

pub returns-clause-promised : goal.returns-clause-promised
returns-clause-promised g c runs sound honest sure =
    let clients = g.L.Listener.clients c.args.listener.now in
    serves_promised g.D.Backend.shows g.D.Backend.imports g.D.Backend.begins runs clients clients (g.D.Desk.seen c.args.desk.now) (g.D.Desk.seen c.args.desk.now) (g.D.Desk.leaves c.args.desk.now)
    (none_served g.D.Backend.shows g.D.Backend.imports g.D.Backend.begins clients clients (g.D.Desk.seen c.args.desk.now) (g.D.Desk.leaves c.args.desk.now) refl (same_clients clients) (g.met.D.Desk.settled c.args.desk.now)) sound honest sure

pub returns-in-Ok-announce-clause-promised : goal.returns-in-Ok-announce-clause-promised
returns-in-Ok-announce-clause-promised g c runs sound honest sure =
    serves_promised g.D.Backend.shows g.D.Backend.imports g.D.Backend.begins runs (g.L.Listener.clients c.args.listener.now) (g.L.Listener.clients c.serve_all.new.listener) (g.D.Desk.seen c.args.desk.now) (g.D.Desk.seen c.serve_all.new.desk)
    (g.D.Desk.leaves c.serve_all.new.desk) c.serve_all.ensures.serves sound honest sure
