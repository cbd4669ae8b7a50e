use Rattle.std.proofs.Common.{rules, ◌≡◌, ◌+◌, ◌<◌, length, get_or, sym, subst, take}
use Rattle.std.specs.Io.KnownBytes.{Appends}
use Rattle.goo_files_streams.specs.Streams.{AppendsPrefix}
use Rattle.goo_files_streams.proofs.AppendsFacts.{appends-more, prefix-more, prefix-front}
use Rattle.goo_files_import.specs.Report.{report_line, report_from}
use Rattle.goo_files_import.proofs.Reports.{report-next, report-front, on_err}
use Rattle.goo_files_import.proofs.report_text.write_report.Goals as goal

pub returns-in_err-write_whole-clause-prefix : goal.returns-in_err-write_whole-clause-prefix
returns-in_err-write_whole-clause-prefix g c =
    let old = g.W.Write.contents c.args.writer.now in
    let mid = g.W.Write.contents c.loop-index.writer in
    let new = g.W.Write.contents c.write_whole.new.writer in
    let items = c.args.report.now.lines.items in
    let i = c.loop-index.index in
    let lt : i < length items = search rules in
    let is : c.row-item.result ≡ get_or items i c.row-item.result = search rules in
    let part : AppendsPrefix mid new (report_line (i + 1) c.row-item.result) = search rules in
    let next = report-next items i c.row-item.result lt is in
    on_err c.from_residual.result
    (subst (AppendsPrefix old new) (sym (report-front items (i + 1)))
    (prefix-front old new (report_from 1 (take (i + 1) items)) _ (subst (AppendsPrefix old new) (sym next) (prefix-more old mid new (report_from 1 (take i items)) (report_line (i + 1) c.row-item.result) c.loop-index.invariant part))))

pub loop-index-preserved : goal.loop-index-preserved
loop-index-preserved g c =
    let old = g.W.Write.contents c.args.writer.now in
    let mid = g.W.Write.contents c.loop-index.writer in
    let new = g.W.Write.contents c.write_whole.new.writer in
    let items = c.args.report.now.lines.items in
    let i = c.loop-index.index in
    let lt : i < length items = search rules in
    let is : c.row-item.result ≡ get_or items i c.row-item.result = search rules in
    let wrote : Appends mid new (report_line (i + 1) c.row-item.result) = search rules in
    subst (Appends old new) (sym (report-next items i c.row-item.result lt is)) (appends-more old mid new (report_from 1 (take i items)) (report_line (i + 1) c.row-item.result) c.loop-index.invariant wrote)
