use Rattle.std.proofs.Common.{◌≡◌, ◌+◌}
use Rattle.goo_desk_server.specs.Serving.{ServesTo}
use Rattle.goo_desk_server.proofs.server.serve_all.Given as goal

-- what the connections so far came to, as many as turns, and no fault of the store
abbrev pub invariant-loop : goal.invariant-loop
invariant-loop g l = record {
  serves : ServesTo g.D.Backend.shows g.D.Backend.imports g.D.Backend.begins (g.L.Listener.clients l.initial.listener) (g.L.Listener.clients l.listener) (g.D.Desk.seen l.initial.desk) (g.D.Desk.seen l.desk) (g.D.Desk.leaves l.desk);
  counted : (g.L.Listener.clients l.listener).accepted ≡ (g.L.Listener.clients l.initial.listener).accepted + l.counter;
  told : (g.D.Desk.seen l.initial.desk).refusals ≡ 0 → (g.D.Desk.seen l.desk).refusals ≡ 0;
  at : (g.L.Listener.clients l.listener).at ≡ (g.L.Listener.clients l.initial.listener).at;
}
