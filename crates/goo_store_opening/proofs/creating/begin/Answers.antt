use Rattle.std.proofs.Common.{rules, IfErr, subst, sym}
use Rattle.sqlite.specs.Held.{state}
use Rattle.goo_tables_rows.specs.Refused.{IsSmall}
use Rattle.goo_tables_rows.specs.Rows.{meta_row}
use Rattle.goo_store_values.specs.Passing.{IsStatementFaultOf}
use Rattle.goo_store_opening.proofs.CreationBlamed.{first_small, refused_told}
use Rattle.goo_store_opening.proofs.creating.begin.Goals as goal

pub returns-in_err-commit_tables-clause-blames : goal.returns-in_err-commit_tables-clause-blames
returns-in_err-commit_tables-clause-blames g c clean live unlimited =
    let old = state g.S.Store c.args.conn.now in
    let new = state g.S.Store c.commit_tables.new.conn in
    let e = c.in_err-commit_tables.field-0.0 in
    let small = subst (λ m. IsSmall (meta_row m)) (sym c.in_ok-row.ensures.row) (first_small c.args.code c.args.today c.args.next_serial c.in_ok-row.ensures.limits) in
    let of : IfErr c.from_residual-in_err-commit_tables.result (IsStatementFaultOf e) = search rules in
    refused_told old new e c.from_residual-in_err-commit_tables.result live (c.in_err-commit_tables.ensures.refused clean unlimited small) of
