use Rattle.std.proofs.Common.{rules, flat_map}
use Rattle.std.specs.Io.KnownBytes.{Appends}
use Rattle.goo_files_streams.specs.Streams.{AppendsPrefix}
use Rattle.goo_files_streams.proofs.AppendsFacts.{prefix-more, prefix-front}
use Rattle.goo_types.specs.Piece.{IsRising}
use Rattle.goo_files_documents.specs.Cancellation.{cancellation_head, cancellation_foot, certificates_in}
use Rattle.goo_files_documents.specs.Runs.{document_line}
use Rattle.goo_files.proofs.Cases.{on_err}
use Rattle.goo_files.proofs.cancellation.write_document.Goals as goal

pub returns-in_err-write_line-clause-prefix : goal.returns-in_err-write_line-clause-prefix
returns-in_err-write_line-clause-prefix g c =
    let old = g.W.Write.contents c.args.writer.now in
    let new = g.W.Write.contents c.write_line.new.writer in
    let part : AppendsPrefix old new (cancellation_head c.args.head.now) = search rules in
    on_err c.from_residual.result (λ rising. prefix-front old new (cancellation_head c.args.head.now) _ part)

pub returns-in_err-write_runs-clause-prefix : goal.returns-in_err-write_runs-clause-prefix
returns-in_err-write_runs-clause-prefix g c =
    let old = g.W.Write.contents c.args.writer.now in
    let mid = g.W.Write.contents c.write_line.new.writer in
    let new = g.W.Write.contents c.write_runs.new.writer in
    let head : Appends old mid (cancellation_head c.args.head.now) = search rules in
    let part : AppendsPrefix mid new (flat_map document_line c.args.runs.now) = search rules in
    on_err c.from_residual-in_err-write_runs.result (λ rising. prefix-more old mid new (cancellation_head c.args.head.now) _ head (prefix-front mid new (flat_map document_line c.args.runs.now) _ part))

pub returns-in_err-write_foot-clause-prefix : goal.returns-in_err-write_foot-clause-prefix
returns-in_err-write_foot-clause-prefix g c =
    let old = g.W.Write.contents c.args.writer.now in
    let mid = g.W.Write.contents c.write_line.new.writer in
    let at = g.W.Write.contents c.write_runs.new.writer in
    let new = g.W.Write.contents c.write_foot.new.writer in
    let head : Appends old mid (cancellation_head c.args.head.now) = search rules in
    let lines : Appends mid at (flat_map document_line c.args.runs.now) = search rules in
    let part : IsRising c.args.runs.now → AppendsPrefix at new (cancellation_foot (certificates_in c.args.runs.now)) = search rules in
    on_err c.from_residual-in_err-write_foot.result (λ rising. prefix-more old mid new (cancellation_head c.args.head.now) _ head (prefix-more mid at new (flat_map document_line c.args.runs.now) _ lines (part rising)))
