use Rattle.std.proofs.Common.{rules}
use Rattle.std.specs.Io.KnownBytes.{Appends}
use Rattle.goo_files_streams.specs.Streams.{AppendsPrefix}
use Rattle.goo_files_csv.specs.Holdings.{header_row}
use Rattle.goo_files.specs.Lines.{held_row, no_sum}
use Rattle.goo_files.specs.Texts.{IsHoldingsCsv}
use Rattle.goo_files.proofs.Framing.{head_broken}
use Rattle.goo_files.proofs.Whole.{no_foot, holdings_by, rows_done}
use Rattle.goo_files.proofs.holdings.write_holdings_csv.Goals as goal

pub returns-in-Err-write_header : goal.returns-in-Err-write_header
returns-in-Err-write_header g c =
    let part : AppendsPrefix (g.W.Write.contents c.args.writer.now) (g.W.Write.contents c.write_header.new.writer) header_row = search rules in
    head_broken held_row no_sum no_foot (IsHoldingsCsv (g.S.Shelf.seen c.args.registry.now.shelf).state c.args.account) (g.S.Shelf.seen c.args.registry.now.shelf) (g.S.Shelf.seen c.heading.new.self.shelf) (g.W.Write.contents c.args.writer.now) (g.W.Write.contents c.write_header.new.writer) c.args.caller.now c.args.account c.in-Ok.heading c.in-Ok.ensures
    (record { sound = c.args.registry.now.sound; rows = c.args.registry.now.kept }) header_row (λ sure. holdings_by (g.S.Shelf.seen c.args.registry.now.shelf).state c.args.account) c.in-Err-write_header.fault c.in-Err-write_header.ensures.kinds part

pub returns : goal.returns
returns g c =
    let head : Appends (g.W.Write.contents c.args.writer.now) (g.W.Write.contents c.write_header.new.writer) header_row = search rules in
    rows_done (g.S.Shelf.seen c.args.registry.now.shelf) (g.S.Shelf.seen c.heading.new.self.shelf) (g.W.Write.contents c.args.writer.now) (g.W.Write.contents c.write_header.new.writer) c.args.caller.now c.args.account c.in-Ok.heading c.in-Ok.ensures
    (record { sound = c.args.registry.now.sound; rows = c.args.registry.now.kept }) (g.S.Shelf.seen c.write_rows.new.registry.shelf) (g.W.Write.contents c.write_rows.new.writer) head c.write_rows.result c.write_rows.ensures
