use Rattle.std.proofs.Common.{◌≡◌, ◌∙◌, ◌+◌, arith, rules, refl}
use Rattle.goo_desk_server.proofs.Connecting.{next_served, none_served, same_clients, stopped}
use Rattle.goo_desk_server.proofs.server.serve_all.Goals as goal

pub loop-init : goal.loop-init
loop-init g c =
    let clients = g.L.Listener.clients c.args.listener.now in
    record {
      serves = none_served g.D.Backend.shows g.D.Backend.imports g.D.Backend.begins clients clients (g.D.Desk.seen c.args.desk.now) (g.D.Desk.leaves c.args.desk.now) refl (same_clients clients) (g.met.D.Desk.settled c.args.desk.now);
      counted = let e : clients.accepted ≡ clients.accepted + 0 = omega arith in e;
      told = λ none. none;
      at = refl;
    }

pub loop-preserved : goal.loop-preserved
loop-preserved g c = record {
  serves = next_served g.D.Backend.shows g.D.Backend.imports g.D.Backend.begins (g.L.Listener.clients c.args.listener.now) (g.L.Listener.clients c.loop.listener) (g.L.Listener.clients c.serve_next.new.listener)
      (g.D.Desk.seen c.args.desk.now) (g.D.Desk.seen c.loop.desk) (g.D.Desk.seen c.serve_next.new.desk) (g.D.Desk.leaves c.loop.desk) (g.D.Desk.leaves c.serve_next.new.desk) c.loop.invariant.serves _ c.serve_next.ensures;
  counted = omega (arith, c.loop.invariant.counted, c.in_ok-serve_next.ensures.next.counted);
  told = λ none. c.in_ok-serve_next.ensures.told (c.loop.invariant.told none);
  at = c.serve_next.ensures.at ∙ c.loop.invariant.at;
}

pub returns-in_err-serve_next : goal.returns-in_err-serve_next
returns-in_err-serve_next g c =
    stopped g.D.Backend.shows g.D.Backend.imports g.D.Backend.begins (g.L.Listener.clients c.args.listener.now) (g.L.Listener.clients c.loop.listener) (g.L.Listener.clients c.serve_next.new.listener)
    (g.D.Desk.seen c.args.desk.now) (g.D.Desk.seen c.loop.desk) (g.D.Desk.seen c.serve_next.new.desk) (g.D.Desk.leaves c.loop.desk) (g.D.Desk.leaves c.serve_next.new.desk) c.loop.invariant.serves
    c.from_residual.result c.in_err-serve_next.field-0.0 c.args.count c.loop.counter (search rules) c.loop.invariant.counted (search rules) c.loop.invariant.told c.loop.invariant.at c.in_err-serve_next.ensures

pub returns : goal.returns
returns g c = record {
  serves = c.loop.invariant.serves;
  counted = search rules;
  at = c.loop.invariant.at;
  told = c.loop.invariant.told;
}
