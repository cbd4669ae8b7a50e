use Rattle.std.proofs.Common.{rules, ◌≡◌, Err, sym, subst}
use Rattle.std.specs.Prelude.{⊤}
use Rattle.sqlite.specs.Held.{state}
use Rattle.goo_tables_rows.specs.Refused.{FailsOnlyByFault}
use Rattle.goo_tables_rows.specs.Stands.{Looks}
use Rattle.goo_tables.proofs.Probing.{unready, faulty}
use Rattle.goo_tables.proofs.probe.probe.Goals as goal

pub returns-in_err-prepare-clause-looks : goal.returns-in_err-prepare-clause-looks
returns-in_err-prepare-clause-looks g c =
    let old = state g.S.Store c.args.conn.now in
    let new = state g.S.Store c.prepare.new.self in
    let same : c.from_residual.result ≡ Err c.in_err-prepare.field-0.0 = search rules in
    subst (λ r. Looks {T = Unit {0}} old new r (λ _ _. ⊤)) (sym same) (unready old new c.in_err-prepare.field-0.0 c.in_err-prepare.ensures.err c.prepare.ensures.survives)

pub returns-in_err-prepare-clause-refused : goal.returns-in_err-prepare-clause-refused
returns-in_err-prepare-clause-refused g c =
    let old = state g.S.Store c.args.conn.now in
    let new = state g.S.Store c.prepare.new.self in
    let same : c.from_residual.result ≡ Err c.in_err-prepare.field-0.0 = search rules in
    subst (λ r. FailsOnlyByFault {T = Unit {0}} old new r (λ _. ⊤)) (sym same) (faulty old new c.in_err-prepare.field-0.0 c.in_err-prepare.ensures.err)
