use Rattle.std.proofs.Common.{refl, subst, sym, IfSome}
use Rattle.goo_tables_rows.specs.Rows.{lot_in}
use Rattle.goo_spec_tables.specs.Places.{lot_of}
use Rattle.goo_store_rules.specs.Lots.{AreDaysOf}
use Rattle.goo_store_rules.proofs.DaysRead.{day_found, day_lost, commissioned_reads, days_read}
use Rattle.goo_store_rules.proofs.lots.days_in.Goals as goal

pub returns-in_err-ok-clause-value : goal.returns-in_err-ok-clause-value
returns-in_err-ok-clause-value c = subst (λ o. IfSome o (AreDaysOf (lot_of (lot_in c.args.row.now)))) (sym c.from_residual.ensures) tt

pub returns-in_err-ok-clause-readable : goal.returns-in_err-ok-clause-readable
returns-in_err-ok-clause-readable c is =
    let l = lot_in c.args.row.now in
    let read = days_read l is in
    absurd (day_lost c.read.result l.plant.commissioned c.as_bytes.result.now c.ok.result c.in_err-ok.was c.ok.ensures.value c.read.ensures c.as_bytes.ensures.value (commissioned_reads l.plant read.0))

pub returns-in_err-ok-2-clause-value : goal.returns-in_err-ok-2-clause-value
returns-in_err-ok-2-clause-value c = subst (λ o. IfSome o (AreDaysOf (lot_of (lot_in c.args.row.now)))) (sym c.from_residual-in_err-ok-2.ensures) tt

pub returns-in_err-ok-2-clause-readable : goal.returns-in_err-ok-2-clause-readable
returns-in_err-ok-2-clause-readable c is =
    let l = lot_in c.args.row.now in
    let read = days_read l is in
    absurd (day_lost c.read-2.result l.first_day c.as_bytes-2.result.now c.ok-2.result c.in_err-ok-2.was c.ok-2.ensures.value c.read-2.ensures c.as_bytes-2.ensures.value (read.1.0))

pub returns-in_err-ok-3-clause-value : goal.returns-in_err-ok-3-clause-value
returns-in_err-ok-3-clause-value c = subst (λ o. IfSome o (AreDaysOf (lot_of (lot_in c.args.row.now)))) (sym c.from_residual-in_err-ok-3.ensures) tt

pub returns-in_err-ok-3-clause-readable : goal.returns-in_err-ok-3-clause-readable
returns-in_err-ok-3-clause-readable c is =
    let l = lot_in c.args.row.now in
    let read = days_read l is in
    absurd (day_lost c.read-3.result l.last_day c.as_bytes-3.result.now c.ok-3.result c.in_err-ok-3.was c.ok-3.ensures.value c.read-3.ensures c.as_bytes-3.ensures.value (read.1.1.0))

pub returns-in_err-ok-4-clause-value : goal.returns-in_err-ok-4-clause-value
returns-in_err-ok-4-clause-value c = subst (λ o. IfSome o (AreDaysOf (lot_of (lot_in c.args.row.now)))) (sym c.from_residual-in_err-ok-4.ensures) tt

pub returns-in_err-ok-4-clause-readable : goal.returns-in_err-ok-4-clause-readable
returns-in_err-ok-4-clause-readable c is =
    let l = lot_in c.args.row.now in
    let read = days_read l is in
    absurd (day_lost c.read-4.result l.issued_on c.as_bytes-4.result.now c.ok-4.result c.in_err-ok-4.was c.ok-4.ensures.value c.read-4.ensures c.as_bytes-4.ensures.value (read.1.1.1))

pub returns-clause-value : goal.returns-clause-value
returns-clause-value c =
    let l = lot_in c.args.row.now in
    record {
      commissioned = day_found c.read.result l.plant.commissioned c.as_bytes.result.now c.ok.result c.in_ok-ok.field-0 c.in_ok-ok.was c.ok.ensures.value c.read.ensures c.as_bytes.ensures.value;
      first_day = day_found c.read-2.result l.first_day c.as_bytes-2.result.now c.ok-2.result c.in_ok-ok-2.field-0 c.in_ok-ok-2.was c.ok-2.ensures.value c.read-2.ensures c.as_bytes-2.ensures.value;
      last_day = day_found c.read-3.result l.last_day c.as_bytes-3.result.now c.ok-3.result c.in_ok-ok-3.field-0 c.in_ok-ok-3.was c.ok-3.ensures.value c.read-3.ensures c.as_bytes-3.ensures.value;
      issued_on = day_found c.read-4.result l.issued_on c.as_bytes-4.result.now c.ok-4.result c.in_ok-ok-4.field-0 c.in_ok-ok-4.was c.ok-4.ensures.value c.read-4.ensures c.as_bytes-4.ensures.value;
    }

pub returns-clause-readable : goal.returns-clause-readable
returns-clause-readable c is = refl
