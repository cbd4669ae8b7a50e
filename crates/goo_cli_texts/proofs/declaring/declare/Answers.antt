use Rattle.goo_registry.specs.Desks.{seen_of}
use Rattle.goo_cli_texts.proofs.Declares.{declares_fault, declares_report, fault_untouched, report_untouched}
use Rattle.goo_cli_texts.proofs.declaring.declare.Goals as goal

pub returns-in-Ok-clause-runs : goal.returns-in-Ok-clause-runs
returns-in-Ok-clause-runs g c honest =
    let new = g.S.Shelf.seen c.import_declarations_watched-imported.new.registry.shelf in
    declares_report _ c.issuer.ensures (seen_of (g.S.Shelf.seen c.args.registry.now.shelf)) (seen_of new) _ _ new.leaves (g.R.Read.remaining c.args.reader.now) (g.R.Read.remaining c.import_declarations_watched-imported.new.reader)
    (g.met.S.Shelf.settled c.import_declarations_watched-imported.new.registry.shelf) c.in-Ok.report c.in-Ok.ensures.runs honest c.finish.result c.finish.ensures.sent

pub returns-in-Err-clause-runs : goal.returns-in-Err-clause-runs
returns-in-Err-clause-runs g c honest =
    let new = g.S.Shelf.seen c.import_declarations_watched-imported.new.registry.shelf in
    declares_fault _ c.issuer.ensures (seen_of (g.S.Shelf.seen c.args.registry.now.shelf)) (seen_of new) _ _ new.leaves (g.R.Read.remaining c.args.reader.now) (g.R.Read.remaining c.import_declarations_watched-imported.new.reader)
    (g.met.S.Shelf.settled c.import_declarations_watched-imported.new.registry.shelf) c.in-Err.fault c.in-Err.ensures.runs honest c.finish-in-Err.result c.finish-in-Err.ensures.sent

pub returns-in-Ok-clause-untouched : goal.returns-in-Ok-clause-untouched
returns-in-Ok-clause-untouched g c =
    report_untouched (seen_of (g.S.Shelf.seen c.args.registry.now.shelf)) (seen_of (g.S.Shelf.seen c.import_declarations_watched-imported.new.registry.shelf)) _ _ c.in-Ok.report c.finish.result c.finish.ensures.sent

pub returns-in-Err-clause-untouched : goal.returns-in-Err-clause-untouched
returns-in-Err-clause-untouched g c =
    let new = g.S.Shelf.seen c.import_declarations_watched-imported.new.registry.shelf in
    fault_untouched (seen_of (g.S.Shelf.seen c.args.registry.now.shelf)) (seen_of new) _ new.leaves (g.R.Read.remaining c.args.reader.now) (g.R.Read.remaining c.import_declarations_watched-imported.new.reader) _ _
    c.in-Err.fault c.in-Err.ensures.runs c.finish-in-Err.result c.finish-in-Err.ensures.sent
