use Rattle.std.proofs.Common.{◌≡◌, Err, rules}
use Rattle.sqlite.specs.Held.{state}
use Rattle.goo_tables_rows.proofs.Results.{if_ok}
use Rattle.goo_store_plans.proofs.LookUps.{looks_made}
use Rattle.goo_store_plans.proofs.NeedsCorrecting.{basis_low, basis_room}
use Rattle.goo_store_plans.proofs.Refusing.{blames_err, blames_made, blames_so}
use Rattle.goo_store_plans.proofs.new_corrections.correct_changes.Goals as goal

pub returns-clause-looks : goal.returns-clause-looks
returns-clause-looks g c =
    looks_made (state g.S.Store c.args.conn.now) (state g.S.Store c.find_basis.new.conn) c.in_ok-basis.basis c.corrected_changes.result _ _ c.in_ok-basis.ensures.looks
    (λ t it basis. if_ok c.corrected_changes.result c.corrected_changes.ensures.does (λ changes does count told known replied. does t count told (basis known) replied))

pub returns-in_err-basis-clause-blames : goal.returns-in_err-basis-clause-blames
returns-in_err-basis-clause-blames g c =
    let s0 = state g.S.Store c.args.conn.now in
    let s1 = state g.S.Store c.find_basis.new.conn in
    let same : c.from_residual.result ≡ Err c.in_err-basis.field-0.0 = search rules in
    blames_err s0 s1 c.in_err-basis.field-0.0 c.from_residual.result _ same
    (blames_so s0 s1 (Err c.in_err-basis.field-0.0) _ _ c.in_err-basis.ensures.blames (λ t stands kept can. record { ended = can.ended; corrections = basis_room t can.corrections }))

pub returns-clause-blames : goal.returns-clause-blames
returns-clause-blames g c =
    blames_made (state g.S.Store c.args.conn.now) (state g.S.Store c.find_basis.new.conn) c.in_ok-basis.basis _ c.in_ok-basis.ensures.looks _ c.in_ok-basis.ensures.blames c.corrected_changes.result _
    (λ t stands kept can basis. c.corrected_changes.ensures.memory can.row can.takes (basis_low t can.corrections c.args.accepted.now.device c.in_ok-basis.basis (basis can.kept_is)) can.carry_fits)
