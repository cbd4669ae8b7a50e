use Rattle.goo_desk_server.proofs.ConnectionFacts.{answer-serves, excuse-serves, shut-serves}
use Rattle.goo_desk_server.proofs.connection.serve_bytes.Goals as goal

pub returns-in-Ok : goal.returns-in-Ok
returns-in-Ok g c =
    answer-serves g.D.Backend.shows g.D.Backend.imports g.D.Backend.begins c.args.bytes.now (g.D.Desk.seen c.args.desk.now) (g.D.Desk.seen c.answer_by_routes.new.desk)
    (g.W.Write.contents c.args.writer.now) (g.W.Write.contents c.send_reply.new.writer) (g.W.Outlet.failed c.send_reply.new.writer) (g.D.Desk.leaves c.args.desk.now) (g.D.Desk.leaves c.answer_by_routes.new.desk)
    c.answer_by_routes.ensures.crash c.answer_by_routes.ensures.shut c.in-Ok.answer c.send_reply.result c.in-Ok.answer.status c.in-Ok.answer.bytes.items
    c.in-Ok.ensures.reliable c.in-Ok.ensures.answered (rw c.deref.ensures.value at c.send_reply.ensures)

pub returns-in-Err-Memory : goal.returns-in-Err-Memory
returns-in-Err-Memory g c =
    excuse-serves g.D.Backend.shows g.D.Backend.imports g.D.Backend.begins c.args.bytes.now (g.D.Desk.seen c.args.desk.now) (g.D.Desk.seen c.answer_by_routes.new.desk)
    (g.W.Write.contents c.args.writer.now) (g.W.Write.contents c.send_reply-in-Err-Memory.new.writer) (g.W.Outlet.failed c.send_reply-in-Err-Memory.new.writer) (g.D.Desk.leaves c.args.desk.now) (g.D.Desk.leaves c.answer_by_routes.new.desk)
    c.answer_by_routes.ensures.crash c.answer_by_routes.ensures.shut c.send_reply-in-Err-Memory.result c.apology.result.bytes
    (rw c.in-Err-Memory.field-0-is at c.in-Err-Memory.ensures.reliable) c.apology.ensures c.in-Err-Memory.ensures.stopped (rw (c.as_bytes.ensures.value, c.as_str.ensures.value) at c.send_reply-in-Err-Memory.ensures)

pub returns-in-Err-Store : goal.returns-in-Err-Store
returns-in-Err-Store g c =
    shut-serves g.D.Backend.shows g.D.Backend.imports g.D.Backend.begins c.args.bytes.now (g.D.Desk.seen c.args.desk.now) (g.D.Desk.seen c.answer_by_routes.new.desk)
    (g.W.Write.contents c.args.writer.now) (g.W.Write.contents c.send.new.self) (g.W.Outlet.failed c.send.new.self) (g.D.Desk.leaves c.args.desk.now) (g.D.Desk.leaves c.answer_by_routes.new.desk)
    c.answer_by_routes.ensures.crash c.answer_by_routes.ensures.shut c.send.result c.apology-in-Err-Store.result.bytes
    (rw c.in-Err-Store.field-0-is at c.in-Err-Store.ensures.reliable) c.apology-in-Err-Store.ensures c.in-Err-Store.ensures.stopped
    (rw (c.as_bytes-in-Err-Store.ensures.value, c.as_str-in-Err-Store.ensures.value) at c.send.ensures.written)
    (rw (c.as_bytes-in-Err-Store.ensures.value, c.as_str-in-Err-Store.ensures.value) at c.send.ensures.prefix) c.send.ensures.failed
