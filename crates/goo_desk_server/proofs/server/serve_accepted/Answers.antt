use Rattle.std.proofs.Common.{refl}
use Rattle.goo_desk_server.proofs.ConnectingFacts.{cut, done, gone, shut, told}
use Rattle.goo_desk_server.proofs.server.serve_accepted.Goals as goal

pub returns-in-Ok-clause-latest : goal.returns-in-Ok-clause-latest
returns-in-Ok-clause-latest g c =
    done g.D.Backend.shows g.D.Backend.imports g.D.Backend.begins (g.R.Read.remaining c.args.reader.now) (g.W.Write.contents c.args.writer.now) (g.W.Write.contents c.serve_by_routes.new.writer) _
    (g.D.Desk.seen c.args.desk.now) (g.D.Desk.seen c.serve_by_routes.new.desk) (g.D.Desk.leaves c.args.desk.now) (g.D.Desk.leaves c.serve_by_routes.new.desk) _ c.in-Ok.ensures.serves

pub returns-in-Err-Read-clause-latest : goal.returns-in-Err-Read-clause-latest
returns-in-Err-Read-clause-latest g c =
    gone g.D.Backend.shows g.D.Backend.imports g.D.Backend.begins (g.R.Read.remaining c.args.reader.now) (g.W.Write.contents c.args.writer.now) (g.W.Write.contents c.serve_by_routes.new.writer) _
    (g.D.Desk.seen c.args.desk.now) (g.D.Desk.seen c.serve_by_routes.new.desk) (g.D.Desk.leaves c.args.desk.now) (g.D.Desk.leaves c.serve_by_routes.new.desk) (rw c.in-Err-Read.field-0-is at c.in-Err-Read.ensures.serves)

pub returns-in-Err-Write-clause-latest : goal.returns-in-Err-Write-clause-latest
returns-in-Err-Write-clause-latest g c =
    cut g.D.Backend.shows g.D.Backend.imports g.D.Backend.begins (g.R.Read.remaining c.args.reader.now) (g.W.Write.contents c.args.writer.now) (g.W.Write.contents c.serve_by_routes.new.writer) _
    (g.D.Desk.seen c.args.desk.now) (g.D.Desk.seen c.serve_by_routes.new.desk) (g.D.Desk.leaves c.args.desk.now) (g.D.Desk.leaves c.serve_by_routes.new.desk) (rw c.in-Err-Write.field-0-is at c.in-Err-Write.ensures.serves)

pub returns-in-Err-Memory-clause-latest : goal.returns-in-Err-Memory-clause-latest
returns-in-Err-Memory-clause-latest g c =
    told g.D.Backend.shows g.D.Backend.imports g.D.Backend.begins (g.R.Read.remaining c.args.reader.now) (g.W.Write.contents c.args.writer.now) (g.W.Write.contents c.send.new.self) _
    (g.D.Desk.seen c.args.desk.now) (g.D.Desk.seen c.serve_by_routes.new.desk) (g.D.Desk.leaves c.args.desk.now) (g.D.Desk.leaves c.serve_by_routes.new.desk)
    (g.W.Write.contents c.serve_by_routes.new.writer) (g.R.Inlet.failed c.serve_by_routes.new.reader) (g.W.Outlet.failed c.send.new.self) _ c.send.result refl (rw c.in-Err-Memory.field-0-is at c.in-Err-Memory.ensures.serves)
    (rw (c.as_bytes.ensures.value, c.as_str.ensures.value, c.unread.ensures) at c.send.ensures.written) (rw (c.as_bytes.ensures.value, c.as_str.ensures.value, c.unread.ensures) at c.send.ensures.prefix) c.send.ensures.failed

pub returns-in-Err-Store-clause-latest : goal.returns-in-Err-Store-clause-latest
returns-in-Err-Store-clause-latest g c =
    shut g.D.Backend.shows g.D.Backend.imports g.D.Backend.begins (g.R.Read.remaining c.args.reader.now) (g.W.Write.contents c.args.writer.now) (g.W.Write.contents c.serve_by_routes.new.writer) _
    (g.D.Desk.seen c.args.desk.now) (g.D.Desk.seen c.serve_by_routes.new.desk) (g.D.Desk.leaves c.args.desk.now) (g.D.Desk.leaves c.serve_by_routes.new.desk) (rw c.in-Err-Store.field-0-is at c.in-Err-Store.ensures.serves)

pub returns-in-Ok-clause-ended : goal.returns-in-Ok-clause-ended
returns-in-Ok-clause-ended g c = record { served = tt; told = c.in-Ok.ensures.serves.2.told }

pub returns-in-Err-Read-clause-ended : goal.returns-in-Err-Read-clause-ended
returns-in-Err-Read-clause-ended g c = record { served = tt; told = (rw c.in-Err-Read.field-0-is at c.in-Err-Read.ensures.serves).2.told }

pub returns-in-Err-Write-clause-ended : goal.returns-in-Err-Write-clause-ended
returns-in-Err-Write-clause-ended g c = record { served = tt; told = (rw c.in-Err-Write.field-0-is at c.in-Err-Write.ensures.serves).2.told }

pub returns-in-Err-Memory-clause-ended : goal.returns-in-Err-Memory-clause-ended
returns-in-Err-Memory-clause-ended g c = record { served = tt; told = (rw c.in-Err-Memory.field-0-is at c.in-Err-Memory.ensures.serves).2.told }

pub returns-in-Err-Store-clause-ended : goal.returns-in-Err-Store-clause-ended
returns-in-Err-Store-clause-ended g c = record { served = tt; told = (rw c.in-Err-Store.field-0-is at c.in-Err-Store.ensures.serves).2.told }
