use Rattle.std.proofs.Common.{rules}
use Rattle.std.specs.Io.Buffered.{writer_contents}
use Rattle.std.specs.Io.KnownBytes.{Appends}
use Rattle.goo_files_import.specs.Report.{report_text}
use Rattle.goo_files_streams.proofs.AppendsFacts.{appends-kept, prefix-whole}
use Rattle.goo_cli_texts.proofs.declaring.send_report.Goals as goal

-- a flush keeps what was written whole
pub returns-then-is_ok-clause-begun : goal.returns-then-is_ok-clause-begun
returns-then-is_ok-clause-begun g c =
    let had = writer_contents g.W.Write.contents c.args.writer.now in
    let mid = writer_contents g.W.Write.contents c.write_report.new.writer in
    let text = report_text c.args.report.now.lines.items in
    let whole : Appends had mid text = search rules in
    prefix-whole had (writer_contents g.W.Write.contents c.flush.new.self) text (appends-kept had mid _ text whole c.flush.ensures.bytes)
