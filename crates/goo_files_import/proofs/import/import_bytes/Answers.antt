use Rattle.std.proofs.Common.{rules, ◌≡◌, ◌∙◌, [], ◌∷◌, ◌++◌, true, false, refl, ap, sym, subst, inl, inr}
use Rattle.csv.specs.Records.{fields_of}
use Rattle.goo_files_csv.specs.Rows.{header, is_header}
use Rattle.goo_files_csv.proofs.Header.{header_is, header_passes}
use Rattle.goo_files_import.specs.Table.{LacksHeader}
use Rattle.goo_files_import.proofs.OneTable.{begins_or_lacks}
use Rattle.goo_files_import.proofs.Importing.{importing_start, importing_on}
use Rattle.goo_files_import.proofs.Reading.{IsAt, at_start, at_more, at_end, at_begins}
use Rattle.goo_files_import.proofs.DurableFacts.{desk_all, desk_next, desk_rows, desk_still, imports_all, imports_next, imports_none, imports_these, stops_headless, stops_memory, stops_row}
use Rattle.goo_files_import.proofs.import.import_bytes.Goals as goal

pub returns-then-not-is_header-clause-stops : goal.returns-then-not-is_header-clause-stops
returns-then-not-is_header-clause-stops g c =
    let fr = c.from_reader-reader.ensures in
    let e = c.flexible.ensures in
    let h = c.has_headers.ensures in
    let input = c.args.input.now in
    let start : IsAt c.into_byte_records-rows.result.rdr c.into_byte_records-rows.result.left input [] =
    subst (λ r. IsAt r c.into_byte_records-rows.result.left input []) (sym c.into_byte_records-rows.ensures.rdr)
    (at_start c.from_reader-reader.result c.into_byte_records-rows.result.left input (rw (e, h) at fr.trim ∙ c.new.ensures.trim) (rw (e, h) at fr.has_headers) fr.headers c.into_byte_records-rows.ensures.left (rw (e, h) at fr.config ∙ c.new.ensures.config) fr.source fr.state) in
    let step = rw (c.in-Some-Ok.is, c.in-Some-Ok.field-0-is) at ((c.next.ensures.steps start.turns start.trim).0 start.ready) in
    let now = at_more c.into_byte_records-rows.result.rdr c.next.new.self.rdr c.into_byte_records-rows.result.left c.next.new.self.left input [] c.in-Some-Ok.first start step in
    let other : is_header (fields_of c.in-Some-Ok.first) ≡ false = search rules in
    let lacks : LacksHeader input = inr (fields_of c.in-Some-Ok.first, at_begins c.next.new.self.rdr c.next.new.self.left input (fields_of c.in-Some-Ok.first ∷ []) now, λ same. let clash : true ≡ false = sym header_passes ∙ ap is_header (sym same) ∙ other in cc) in
    stops_headless input (g.D.Desk.seen c.args.desk.now) c.stopped.result.report.lines.items c.stopped.result.cause c.stopped.ensures.cause lacks (c.stopped.ensures.lines ∙ c.new-lines.ensures.items)

pub returns-in-None-clause-stops : goal.returns-in-None-clause-stops
returns-in-None-clause-stops g c =
    let fr = c.from_reader-reader.ensures in
    let e = c.flexible.ensures in
    let h = c.has_headers.ensures in
    let input = c.args.input.now in
    let start : IsAt c.into_byte_records-rows.result.rdr c.into_byte_records-rows.result.left input [] =
    subst (λ r. IsAt r c.into_byte_records-rows.result.left input []) (sym c.into_byte_records-rows.ensures.rdr)
    (at_start c.from_reader-reader.result c.into_byte_records-rows.result.left input (rw (e, h) at fr.trim ∙ c.new.ensures.trim) (rw (e, h) at fr.has_headers) fr.headers c.into_byte_records-rows.ensures.left (rw (e, h) at fr.config ∙ c.new.ensures.config) fr.source fr.state) in
    let step = rw c.in-None.is at ((c.next.ensures.steps start.turns start.trim).0 start.ready) in
    let lacks : LacksHeader input = inl (at_end c.into_byte_records-rows.result.rdr c.next.new.self.rdr c.into_byte_records-rows.result.left input [] start step) in
    stops_headless input (g.D.Desk.seen c.args.desk.now) c.stopped-in-None.result.report.lines.items c.stopped-in-None.result.cause c.stopped-in-None.ensures.cause lacks (c.stopped-in-None.ensures.lines ∙ c.new-lines.ensures.items)

pub returns-in-Some-Err-clause-stops : goal.returns-in-Some-Err-clause-stops
returns-in-Some-Err-clause-stops g c = stops_memory c.args.input.now (g.D.Desk.seen c.args.desk.now) (g.D.Desk.seen c.args.desk.now) c.stopped-in-Some-Err.result.report.lines.items c.stopped-in-Some-Err.result.cause c.stopped-in-Some-Err.ensures.cause

pub returns-then-not-is_header-clause-imports : goal.returns-then-not-is_header-clause-imports
returns-then-not-is_header-clause-imports g c reliable =
    imports_none c.args.caller.now c.args.input.now (g.D.Desk.leaves c.args.desk.now) (g.D.Desk.seen c.args.desk.now) c.stopped.result (c.stopped.ensures.lines ∙ c.new-lines.ensures.items) (g.met.D.Desk.settled c.args.desk.now)

pub returns-then-not-is_header-clause-desk : goal.returns-then-not-is_header-clause-desk
returns-then-not-is_header-clause-desk g c = desk_still (g.D.Desk.seen c.args.desk.now) c.stopped.result (λ store. cc (sym c.stopped.ensures.cause ∙ store))

pub returns-in-Some-Err-clause-imports : goal.returns-in-Some-Err-clause-imports
returns-in-Some-Err-clause-imports g c reliable =
    imports_none c.args.caller.now c.args.input.now (g.D.Desk.leaves c.args.desk.now) (g.D.Desk.seen c.args.desk.now) c.stopped-in-Some-Err.result (c.stopped-in-Some-Err.ensures.lines ∙ c.new-lines.ensures.items) (g.met.D.Desk.settled c.args.desk.now)

pub returns-in-Some-Err-clause-desk : goal.returns-in-Some-Err-clause-desk
returns-in-Some-Err-clause-desk g c = desk_still (g.D.Desk.seen c.args.desk.now) c.stopped-in-Some-Err.result (λ store. cc (sym c.stopped-in-Some-Err.ensures.cause ∙ store))

pub returns-in-None-clause-imports : goal.returns-in-None-clause-imports
returns-in-None-clause-imports g c reliable =
    imports_none c.args.caller.now c.args.input.now (g.D.Desk.leaves c.args.desk.now) (g.D.Desk.seen c.args.desk.now) c.stopped-in-None.result (c.stopped-in-None.ensures.lines ∙ c.new-lines.ensures.items) (g.met.D.Desk.settled c.args.desk.now)

pub returns-in-None-clause-desk : goal.returns-in-None-clause-desk
returns-in-None-clause-desk g c = desk_still (g.D.Desk.seen c.args.desk.now) c.stopped-in-None.result (λ store. cc (sym c.stopped-in-None.ensures.cause ∙ store))

pub loop-row-init : goal.loop-row-init
loop-row-init g c =
    let fr = c.from_reader-reader.ensures in
    let e = c.flexible.ensures in
    let h = c.has_headers.ensures in
    let input = c.args.input.now in
    let start : IsAt c.into_byte_records-rows.result.rdr c.into_byte_records-rows.result.left input [] =
    subst (λ r. IsAt r c.into_byte_records-rows.result.left input []) (sym c.into_byte_records-rows.ensures.rdr)
    (at_start c.from_reader-reader.result c.into_byte_records-rows.result.left input (rw (e, h) at fr.trim ∙ c.new.ensures.trim) (rw (e, h) at fr.has_headers) fr.headers c.into_byte_records-rows.ensures.left (rw (e, h) at fr.config ∙ c.new.ensures.config) fr.source fr.state) in
    let step = rw (c.in-Some-Ok.is, c.in-Some-Ok.field-0-is) at ((c.next.ensures.steps start.turns start.trim).0 start.ready) in
    let now = at_more c.into_byte_records-rows.result.rdr c.next.new.self.rdr c.into_byte_records-rows.result.left c.next.new.self.left input [] c.in-Some-Ok.first start step in
    let passes : is_header (fields_of c.in-Some-Ok.first) ≡ true = search rules in
    let headed : IsAt c.next.new.self.rdr c.next.new.self.left input (header ∷ []) = subst (λ f. IsAt c.next.new.self.rdr c.next.new.self.left input (f ∷ [])) (header_is (fields_of c.in-Some-Ok.first) passes) now in
    rw (c.into_iter-row-iterator.ensures.into_iter_gives ∙ refl, c.new-lines.ensures.items) ([], headed, importing_start (g.D.Desk.seen c.args.desk.now) c.args.caller.now)

pub loop-row-preserved : goal.loop-row-preserved
loop-row-preserved g c =
    let inv = c.loop-row.invariant in
    let old = g.D.Desk.seen c.args.desk.now in
    let mid = g.D.Desk.seen c.loop-row.desk in
    let new = g.D.Desk.seen c.import_row.new.desk in
    let step = rw (c.in-Some.is, c.in-Ok.is) at ((c.next-in-loop-row.ensures.steps inv.1.turns inv.1.trim).0 inv.1.ready) in
    let now = at_more c.loop-row.row-iterator.rdr c.next-in-loop-row.new.self.rdr c.loop-row.row-iterator.left c.next-in-loop-row.new.self.left c.args.input.now (header ∷ inv.0) c.in-Ok.row inv.1 step in (
      inv.0 ++ fields_of c.in-Ok.row ∷ [],
      now,
      importing_on old mid new c.args.caller.now inv.0 c.loop-row.lines.items c.import_row.new.lines.items (fields_of c.in-Ok.row) (g.D.Desk.leaves c.import_row.new.desk) c.import_row.result inv.2 c.import_row.ensures.row (search rules),
    )

-- no more rows were read
pub returns-in_default-clause-stops : goal.returns-in_default-clause-stops
returns-in_default-clause-stops g c =
    stops_memory c.args.input.now (g.D.Desk.seen c.args.desk.now) (g.D.Desk.seen c.loop-row.desk) c.stopped-in_default.result.report.lines.items c.stopped-in_default.result.cause c.stopped-in_default.ensures.cause

pub returns-in_default-clause-imports : goal.returns-in_default-clause-imports
returns-in_default-clause-imports g c reliable =
    let inv = c.loop-row.invariant in
    imports_these c.args.caller.now c.args.input.now (g.D.Desk.leaves c.loop-row.desk) (g.D.Desk.seen c.args.desk.now) (g.D.Desk.seen c.loop-row.desk) inv.0 c.loop-row.lines.items c.stopped-in_default.result inv.2 reliable
    (inr (at_begins c.loop-row.row-iterator.rdr c.loop-row.row-iterator.left c.args.input.now (header ∷ inv.0) inv.1)) c.stopped-in_default.ensures.lines (g.met.D.Desk.settled c.loop-row.desk)

pub returns-in_default-clause-desk : goal.returns-in_default-clause-desk
returns-in_default-clause-desk g c =
    let inv = c.loop-row.invariant in
    desk_rows (g.D.Desk.seen c.args.desk.now) (g.D.Desk.seen c.loop-row.desk) c.args.caller.now inv.0 c.loop-row.lines.items c.stopped-in_default.result inv.2 (λ store. cc (sym c.stopped-in_default.ensures.cause ∙ store))

-- the next row stopped it
pub returns-in-Err-clause-stops : goal.returns-in-Err-clause-stops
returns-in-Err-clause-stops g c =
    stops_row c.args.input.now (g.D.Desk.seen c.args.desk.now) (g.D.Desk.seen c.import_row.new.desk) c.stopped-in-Err.result.report.lines.items c.stopped-in-Err.result.cause c.in-Err.fault (c.stopped-in-Err.ensures.cause ∙ c.of.ensures)
    (λ lacks. begins_or_lacks c.args.input.now c.loop-row.invariant.0 lacks (at_begins c.loop-row.row-iterator.rdr c.loop-row.row-iterator.left c.args.input.now (header ∷ c.loop-row.invariant.0) c.loop-row.invariant.1))

pub returns-in-Err-clause-imports : goal.returns-in-Err-clause-imports
returns-in-Err-clause-imports g c reliable =
    let inv = c.loop-row.invariant in
    let step = rw (c.in-Some.is, c.in-Ok.is) at ((c.next-in-loop-row.ensures.steps inv.1.turns inv.1.trim).0 inv.1.ready) in
    let now = at_more c.loop-row.row-iterator.rdr c.next-in-loop-row.new.self.rdr c.loop-row.row-iterator.left c.next-in-loop-row.new.self.left c.args.input.now (header ∷ inv.0) c.in-Ok.row inv.1 step in
    imports_next c.args.caller.now c.args.input.now (g.D.Desk.leaves c.import_row.new.desk) _ (g.D.Desk.seen c.args.desk.now) (g.D.Desk.seen c.loop-row.desk) (g.D.Desk.seen c.import_row.new.desk) inv.0 c.loop-row.lines.items (fields_of c.in-Ok.row) c.in-Err.fault c.stopped-in-Err.result
    inv.2 reliable c.in-Err.ensures.row
    (inr (at_begins c.loop-row.row-iterator.rdr c.loop-row.row-iterator.left c.args.input.now (header ∷ inv.0) inv.1))
    (at_begins c.next-in-loop-row.new.self.rdr c.next-in-loop-row.new.self.left c.args.input.now (header ∷ (inv.0 ++ fields_of c.in-Ok.row ∷ [])) now)
    (c.stopped-in-Err.ensures.lines ∙ c.in-Err.ensures.kept) (c.stopped-in-Err.ensures.cause ∙ c.of.ensures) (g.met.D.Desk.settled c.import_row.new.desk)

pub returns-in-Err-clause-desk : goal.returns-in-Err-clause-desk
returns-in-Err-clause-desk g c =
    let inv = c.loop-row.invariant in
    desk_next _ (g.D.Desk.leaves c.import_row.new.desk) (g.D.Desk.seen c.args.desk.now) (g.D.Desk.seen c.loop-row.desk) (g.D.Desk.seen c.import_row.new.desk) c.args.caller.now inv.0 c.loop-row.lines.items (fields_of c.in-Ok.row) c.in-Err.fault c.stopped-in-Err.result
    inv.2 (c.stopped-in-Err.ensures.cause ∙ c.of.ensures) c.in-Err.ensures.row

-- all rows were applied
pub returns-clause-imports : goal.returns-clause-imports
returns-clause-imports g c reliable =
    let inv = c.loop-row.invariant in
    let step = rw c.in-None-row.is at ((c.next-in-loop-row.ensures.steps inv.1.turns inv.1.trim).0 inv.1.ready) in
    let table = at_end c.loop-row.row-iterator.rdr c.next-in-loop-row.new.self.rdr c.loop-row.row-iterator.left c.args.input.now (header ∷ inv.0) inv.1 step in
    imports_all c.args.caller.now c.args.input.now (g.D.Desk.leaves c.loop-row.desk) (g.D.Desk.seen c.args.desk.now) (g.D.Desk.seen c.loop-row.desk) inv.0 _ inv.2 reliable
    (inr (at_begins c.loop-row.row-iterator.rdr c.loop-row.row-iterator.left c.args.input.now (header ∷ inv.0) inv.1)) table (g.met.D.Desk.settled c.loop-row.desk)

pub returns-clause-desk : goal.returns-clause-desk
returns-clause-desk g c =
    let inv = c.loop-row.invariant in
    desk_all (g.D.Desk.seen c.args.desk.now) (g.D.Desk.seen c.loop-row.desk) c.args.caller.now inv.0 _ inv.2
