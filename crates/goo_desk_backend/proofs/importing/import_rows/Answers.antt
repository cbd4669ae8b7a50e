use Rattle.std.proofs.Common.{sym, subst, inl}
use Rattle.goo_registry.specs.Desks.{seen_of}
use Rattle.goo_desk_backend.specs.Backends.{Imports}
use Rattle.goo_desk_backend.specs.Showing.{imported_by, begun_by}
use Rattle.goo_desk_backend.proofs.ImportFacts.{imports-made, imports-stopped}
use Rattle.goo_desk_backend.proofs.DurableFacts.{found_begun}
use Rattle.goo_desk_backend.proofs.importing.import_rows.Goals as goal

pub returns-in-Ok-clause-imports : goal.returns-in-Ok-clause-imports
returns-in-Ok-clause-imports g c =
    let new = g.S.Shelf.seen c.import_bytes.new.desk.shelf in
    imports-made (seen_of (g.S.Shelf.seen c.args.registry.now.shelf)) (seen_of new) c.args.caller.now c.args.rows.now new.leaves c.in-Ok.report c.reported.result c.reported.ensures.text c.reported.ensures.fault c.in-Ok.ensures.imports c.in-Ok.ensures.desk

pub returns-in-Err-clause-imports : goal.returns-in-Err-clause-imports
returns-in-Err-clause-imports g c =
    let old = seen_of (g.S.Shelf.seen c.args.registry.now.shelf) in
    let new = g.S.Shelf.seen c.import_bytes.new.desk.shelf in
    let made = c.in-Err.ensures in
    subst (λ r. Imports imported_by begun_by old (seen_of new) c.args.caller.now c.args.rows.now r) (sym c.stopped.ensures)
    (imports-stopped old (seen_of new) c.args.caller.now c.args.rows.now new.leaves c.in-Err.fault made.stops made.imports made.desk)

pub returns-in-Ok-clause-crash : goal.returns-in-Ok-clause-crash
returns-in-Ok-clause-crash g c corruptions sure =
    let new = g.S.Shelf.seen c.import_bytes.new.desk.shelf in
    found_begun c.args.caller.now c.args.rows.now (seen_of (g.S.Shelf.seen c.args.registry.now.shelf)) (seen_of new) new.leaves c.import_bytes.result (c.import_bytes.ensures.imports (inl corruptions)) sure

pub returns-in-Err-clause-crash : goal.returns-in-Err-clause-crash
returns-in-Err-clause-crash g c corruptions sure =
    let new = g.S.Shelf.seen c.import_bytes.new.desk.shelf in
    found_begun c.args.caller.now c.args.rows.now (seen_of (g.S.Shelf.seen c.args.registry.now.shelf)) (seen_of new) new.leaves c.import_bytes.result (c.import_bytes.ensures.imports (inl corruptions)) sure
