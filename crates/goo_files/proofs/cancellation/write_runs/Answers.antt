use Rattle.std.proofs.Common.{rules, ◌≡◌, ◌<◌, length, get_or}
use Rattle.std.specs.Io.KnownBytes.{Appends}
use Rattle.goo_files_streams.specs.Streams.{AppendsPrefix}
use Rattle.goo_files_documents.specs.Runs.{document_line}
use Rattle.goo_files.proofs.Cases.{on_err}
use Rattle.goo_files.proofs.LineFacts.{lines_on, lines_part}
use Rattle.goo_files.proofs.cancellation.write_runs.Goals as goal

pub returns-in_err-write_line-clause-prefix : goal.returns-in_err-write_line-clause-prefix
returns-in_err-write_line-clause-prefix g c =
    let old = g.W.Write.contents c.args.writer.now in
    let mid = g.W.Write.contents c.loop-run.writer in
    let new = g.W.Write.contents c.write_line.new.writer in
    let items = c.args.runs.now in
    let i = c.loop-run.run-index in
    let lt : i < length items = search rules in
    let is : c.run-item.result ≡ get_or items i c.run-item.result = search rules in
    let part : AppendsPrefix mid new (document_line c.run-item.result) = search rules in
    on_err c.from_residual.result (lines_part document_line items i c.run-item.result lt is old mid new c.loop-run.invariant part)

pub loop-run-preserved : goal.loop-run-preserved
loop-run-preserved g c =
    let old = g.W.Write.contents c.args.writer.now in
    let mid = g.W.Write.contents c.loop-run.writer in
    let new = g.W.Write.contents c.write_line.new.writer in
    let items = c.args.runs.now in
    let i = c.loop-run.run-index in
    let lt : i < length items = search rules in
    let is : c.run-item.result ≡ get_or items i c.run-item.result = search rules in
    let wrote : Appends mid new (document_line c.run-item.result) = search rules in
    lines_on document_line items i c.run-item.result lt is old mid new c.loop-run.invariant wrote
