use Rattle.std.proofs.Common.{rules}
use Rattle.goo_desk_server.proofs.ConnectionFacts.{heard-serves, unread}
use Rattle.goo_desk_server.proofs.connection.serve_by_routes.Goals as goal

pub returns-in_err-arrived : goal.returns-in_err-arrived
returns-in_err-arrived g c = record {
  serves = unread g.D.Backend.shows g.D.Backend.imports g.D.Backend.begins c.from_residual.result c.in_err-arrived.field-0.0 (g.R.Read.remaining c.args.reader.now) (g.D.Desk.seen c.args.desk.now) (g.W.Write.contents c.args.writer.now)
      (g.R.Inlet.failed c.read_decided.new.reader) (g.W.Outlet.failed c.args.writer.now) (g.D.Desk.leaves c.args.desk.now) (search rules) c.in_err-arrived.ensures.failed (g.met.D.Desk.settled c.args.desk.now);
}

pub returns : goal.returns
returns g c = record {
  serves = heard-serves g.D.Backend.shows g.D.Backend.imports g.D.Backend.begins (g.R.Read.remaining c.args.reader.now) c.in_ok-arrived.arrived.bytes.items (g.D.Desk.seen c.args.desk.now) (g.D.Desk.seen c.serve_bytes.new.desk)
      (g.W.Write.contents c.args.writer.now) (g.W.Write.contents c.serve_bytes.new.writer) (g.R.Inlet.failed c.read_decided.new.reader) (g.W.Outlet.failed c.serve_bytes.new.writer)
      (g.D.Desk.leaves c.args.desk.now) (g.D.Desk.leaves c.serve_bytes.new.desk) c.serve_bytes.result c.in_ok-arrived.ensures.stands (rw c.deref.ensures.value at c.serve_bytes.ensures);
}
