use Rattle.std.proofs.Common.{ap, refl}
use Rattle.goo_desk_listener.specs.Clients.{Clients}
use Rattle.goo_desk_server.proofs.Connecting.{by_serving}
use Rattle.goo_desk_server.proofs.server.serve_next.Goals as goal

pub returns : goal.returns
returns g c =
    by_serving g.D.Backend.shows g.D.Backend.imports g.D.Backend.begins c.serve_accepted-served.result (g.L.Listener.clients c.args.listener.now) (g.L.Listener.clients c.accept.new.self) (g.L.Listener.clients c.close.new.self) _ _ _
    (g.D.Desk.seen c.args.desk.now) (g.D.Desk.seen c.serve_accepted-served.new.desk) (g.D.Desk.leaves c.args.desk.now) (g.D.Desk.leaves c.serve_accepted-served.new.desk)
    c.serve_accepted-served.ensures.ended c.in-Ok.ensures.accepted c.close.ensures c.serve_accepted-served.ensures.latest

-- none was accepted
pub returns-in_default : goal.returns-in_default
returns-in_default g c = record {
  next = (c.in_default.ensures.none, refl, λ o left. left);
  at = ap (λ (k : Clients). k.at) c.in_default.ensures.none;
  told = λ none. none;
}
