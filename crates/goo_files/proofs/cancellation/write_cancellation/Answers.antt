use Rattle.std.proofs.Common.{◌≡◌, Ok}
use Rattle.goo_types.specs.Piece.{IsRising}
use Rattle.goo_core_shelf.specs.Shelf.{Looks}
use Rattle.goo_registry_reads.specs.AccountReads.{IsHeadingShown}
use Rattle.goo_files.proofs.Cases.{on_ok_as, on_err_as}
use Rattle.goo_files.proofs.Documents.{document_done}
use Rattle.goo_files.proofs.cancellation.write_cancellation.Goals as goal

pub returns : goal.returns
returns g c =
    let old = g.S.Shelf.seen c.args.registry.now.shelf in
    let mid = g.S.Shelf.seen c.cancellation.new.self.shelf in
    let new = g.S.Shelf.seen c.heading.new.self.shelf in
    let found = c.in-Ok.found in
    let two : Looks mid new (Ok (Ok c.in-Ok-heading.own)) (IsHeadingShown mid.state c.args.caller.now found.record.account) = rw c.account.ensures at c.in-Ok-heading.ensures in
    let rising : new.defects ≡ 0 → IsRising found.runs.items = λ none. (c.in-Ok.ensures.found (two.defects_stay none)).runs.rising in
    let wrote = rw (c.head_of_document-head.ensures, c.deref.ensures.value) at c.write_document.ensures.written in
    let part = rw (c.head_of_document-head.ensures, c.deref.ensures.value) at c.write_document.ensures.prefix in
    document_done old mid new (g.W.Write.contents c.args.writer.now) (g.W.Write.contents c.write_document.new.writer) c.args.caller.now c.args.act found c.in-Ok.ensures c.in-Ok-heading.own two c.write_document.result
    (λ none. on_ok_as c.write_document.result (λ w. w (rising none)) wrote) (λ none. on_err_as c.write_document.result (λ p. p (rising none)) part) c.write_document.ensures.kinds
