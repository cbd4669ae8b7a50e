use Rattle.std.proofs.Common.{rules}
use Rattle.std.specs.Io.KnownBytes.{Appends}
use Rattle.goo_files_streams.specs.Streams.{AppendsPrefix}
use Rattle.goo_files_documents.specs.Counts.{counts_of}
use Rattle.goo_files_documents.specs.Runs.{statement_line}
use Rattle.goo_files_documents.specs.Statement.{statement_foot}
use Rattle.goo_files.specs.Texts.{IsStatement}
use Rattle.goo_files.specs.declared.text_fault.ShowFault.TheVariants as text
use Rattle.goo_files.proofs.Framing.{head_broken, lines_cut, foot_ends, foot_cut}
use Rattle.goo_files.proofs.Whole.{head_of, statement_by}
use Rattle.goo_files.proofs.statement.write_statement.Goals as goal

pub returns-then-is_err : goal.returns-then-is_err
returns-then-is_err g c =
    let part : AppendsPrefix (g.W.Write.contents c.args.writer.now) (g.W.Write.contents c.write_head.new.writer) (head_of c.in-Ok.heading) = search rules in
    head_broken statement_line counts_of statement_foot (IsStatement (g.S.Shelf.seen c.args.registry.now.shelf).state c.args.account) (g.S.Shelf.seen c.args.registry.now.shelf) (g.S.Shelf.seen c.heading.new.self.shelf) (g.W.Write.contents c.args.writer.now) (g.W.Write.contents c.write_head.new.writer) c.args.caller.now c.args.account c.in-Ok.heading c.in-Ok.ensures
    (record { sound = c.args.registry.now.sound; rows = c.args.registry.now.kept }) (head_of c.in-Ok.heading) (λ sure. statement_by (g.S.Shelf.seen c.args.registry.now.shelf).state c.args.account c.in-Ok.heading (c.in-Ok.ensures.found sure).1) text.Write tt part

pub returns-in-Err-write_runs : goal.returns-in-Err-write_runs
returns-in-Err-write_runs g c =
    let head : Appends (g.W.Write.contents c.args.writer.now) (g.W.Write.contents c.write_head.new.writer) (head_of c.in-Ok.heading) = search rules in
    lines_cut statement_line counts_of statement_foot (IsStatement (g.S.Shelf.seen c.args.registry.now.shelf).state c.args.account) (g.S.Shelf.seen c.args.registry.now.shelf) (g.S.Shelf.seen c.heading.new.self.shelf) (g.W.Write.contents c.args.writer.now) (g.W.Write.contents c.write_head.new.writer) c.args.caller.now c.args.account c.in-Ok.heading c.in-Ok.ensures
    (record { sound = c.args.registry.now.sound; rows = c.args.registry.now.kept }) (head_of c.in-Ok.heading) (λ sure. statement_by (g.S.Shelf.seen c.args.registry.now.shelf).state c.args.account c.in-Ok.heading (c.in-Ok.ensures.found sure).1)
    (g.S.Shelf.seen c.write_runs.new.registry.shelf) (g.W.Write.contents c.write_runs.new.writer) head c.in-Err-write_runs.fault c.in-Err-write_runs.ensures

pub returns-in-Ok-write_line : goal.returns-in-Ok-write_line
returns-in-Ok-write_line g c =
    let head : Appends (g.W.Write.contents c.args.writer.now) (g.W.Write.contents c.write_head.new.writer) (head_of c.in-Ok.heading) = search rules in
    let foot : Appends (g.W.Write.contents c.write_runs.new.writer) (g.W.Write.contents c.write_line.new.writer) c.statement_foot.result.bytes = search rules in
    foot_ends statement_line counts_of statement_foot (IsStatement (g.S.Shelf.seen c.args.registry.now.shelf).state c.args.account) (g.S.Shelf.seen c.args.registry.now.shelf) (g.S.Shelf.seen c.heading.new.self.shelf) (g.W.Write.contents c.args.writer.now) (g.W.Write.contents c.write_head.new.writer) c.args.caller.now c.args.account c.in-Ok.heading c.in-Ok.ensures
    (record { sound = c.args.registry.now.sound; rows = c.args.registry.now.kept }) (head_of c.in-Ok.heading) (λ sure. statement_by (g.S.Shelf.seen c.args.registry.now.shelf).state c.args.account c.in-Ok.heading (c.in-Ok.ensures.found sure).1)
    (g.S.Shelf.seen c.write_runs.new.registry.shelf) (g.W.Write.contents c.write_runs.new.writer) head (g.W.Write.contents c.write_line.new.writer) c.in-Ok-write_runs.counts c.in-Ok-write_runs.ensures (rw c.statement_foot.ensures at foot)

pub returns-in-Err-write_line : goal.returns-in-Err-write_line
returns-in-Err-write_line g c =
    let head : Appends (g.W.Write.contents c.args.writer.now) (g.W.Write.contents c.write_head.new.writer) (head_of c.in-Ok.heading) = search rules in
    let foot : AppendsPrefix (g.W.Write.contents c.write_runs.new.writer) (g.W.Write.contents c.write_line.new.writer) c.statement_foot.result.bytes = search rules in
    foot_cut statement_line counts_of statement_foot (IsStatement (g.S.Shelf.seen c.args.registry.now.shelf).state c.args.account) (g.S.Shelf.seen c.args.registry.now.shelf) (g.S.Shelf.seen c.heading.new.self.shelf) (g.W.Write.contents c.args.writer.now) (g.W.Write.contents c.write_head.new.writer) c.args.caller.now c.args.account c.in-Ok.heading c.in-Ok.ensures
    (record { sound = c.args.registry.now.sound; rows = c.args.registry.now.kept }) (head_of c.in-Ok.heading) (λ sure. statement_by (g.S.Shelf.seen c.args.registry.now.shelf).state c.args.account c.in-Ok.heading (c.in-Ok.ensures.found sure).1)
    (g.S.Shelf.seen c.write_runs.new.registry.shelf) (g.W.Write.contents c.write_runs.new.writer) head (g.W.Write.contents c.write_line.new.writer) c.in-Ok-write_runs.counts c.in-Ok-write_runs.ensures (rw c.statement_foot.ensures at foot)
