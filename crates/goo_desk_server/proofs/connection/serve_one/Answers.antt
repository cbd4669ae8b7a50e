use Rattle.goo_desk_server.proofs.ConnectionFacts.{no-room}
use Rattle.goo_desk_server.proofs.connection.serve_one.Goals as goal

pub returns-in_default : goal.returns-in_default
returns-in_default g c = record {
  serves = no-room g.D.Backend.shows g.D.Backend.imports g.D.Backend.begins (g.R.Read.remaining c.args.reader.now) (g.D.Desk.seen c.args.desk.now) (g.W.Write.contents c.args.writer.now) _ (g.D.Desk.leaves c.args.desk.now)
      (g.met.D.Desk.settled c.args.desk.now);
}
