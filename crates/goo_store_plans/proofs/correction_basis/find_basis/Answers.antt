use Rattle.std.proofs.Common.{◌≡◌, Ok, Err, rules}
use Rattle.sqlite.specs.Held.{state}
use Rattle.goo_store_plans.proofs.LookUps.{looks_failed, looks_made, looks_then}
use Rattle.goo_tables_rows.specs.Rows.{Tables}
use Rattle.goo_store_plans.specs.Correcting.{HasBasis}
use Rattle.goo_store_plans.proofs.Refusing.{blames_err, blames_made, blames_so, blames_then}
use Rattle.goo_store_plans.proofs.correction_basis.find_basis.Goals as goal

pub returns-in_err-number-clause-looks : goal.returns-in_err-number-clause-looks
returns-in_err-number-clause-looks g c =
    let s0 = state g.S.Store c.args.conn.now in
    let s1 = state g.S.Store c.known_last_day.new.conn in
    let s2 = state g.S.Store c.next_correction_number.new.conn in
    looks_failed s0 s2 c.next_correction_number.result c.from_residual-in_err-number.result _ _ (search rules)
    (looks_then s0 s1 s2 c.in_ok-last_day.last_day c.next_correction_number.result _ _ c.in_ok-last_day.ensures.looks c.next_correction_number.ensures.looks)

pub returns-clause-looks : goal.returns-clause-looks
returns-clause-looks g c =
    let s0 = state g.S.Store c.args.conn.now in
    let s1 = state g.S.Store c.known_last_day.new.conn in
    let s2 = state g.S.Store c.next_correction_number.new.conn in
    looks_made s0 s2 c.in_ok-number.number (Ok (record { last_day = c.in_ok-last_day.last_day; number = c.in_ok-number.number })) _ _
    (looks_then s0 s1 s2 c.in_ok-last_day.last_day (Ok c.in_ok-number.number) _ _ c.in_ok-last_day.ensures.looks c.in_ok-number.ensures.looks)
    (λ t it both known. record { last_day = both.0 known.device; number = both.1 known.correction })

pub returns-in_err-last_day-clause-blames : goal.returns-in_err-last_day-clause-blames
returns-in_err-last_day-clause-blames g c =
    let s0 = state g.S.Store c.args.conn.now in
    let s1 = state g.S.Store c.known_last_day.new.conn in
    let same : c.from_residual.result ≡ Err c.in_err-last_day.field-0.0 = search rules in
    blames_err s0 s1 c.in_err-last_day.field-0.0 c.from_residual.result _ same (blames_so s0 s1 (Err c.in_err-last_day.field-0.0) _ _ c.in_err-last_day.ensures.blames (λ t stands kept can. can.ended))

pub returns-in_err-number-clause-blames : goal.returns-in_err-number-clause-blames
returns-in_err-number-clause-blames g c =
    let s0 = state g.S.Store c.args.conn.now in
    let s1 = state g.S.Store c.known_last_day.new.conn in
    let s2 = state g.S.Store c.next_correction_number.new.conn in
    let same : c.from_residual-in_err-number.result ≡ Err c.in_err-number.field-0.0 = search rules in
    blames_err s0 s2 c.in_err-number.field-0.0 c.from_residual-in_err-number.result _ same
    (blames_then s0 s1 s2 c.in_ok-last_day.last_day _ c.in_ok-last_day.ensures.looks _ c.in_ok-last_day.ensures.blames (Err c.in_err-number.field-0.0) _ c.in_err-number.ensures.looks _ c.in_err-number.ensures.blames _
    (λ t stands kept can first. can.corrections))

pub returns-clause-blames : goal.returns-clause-blames
returns-clause-blames g c =
    let s0 = state g.S.Store c.args.conn.now in
    let s1 = state g.S.Store c.known_last_day.new.conn in
    let s2 = state g.S.Store c.next_correction_number.new.conn in
    let Can : Tables → Type 0 = λ t. HasBasis t c.args.device.now in
    blames_made s0 s2 c.in_ok-number.number _ (looks_then s0 s1 s2 c.in_ok-last_day.last_day (Ok c.in_ok-number.number) _ _ c.in_ok-last_day.ensures.looks c.in_ok-number.ensures.looks)
    Can (blames_then s0 s1 s2 c.in_ok-last_day.last_day _ c.in_ok-last_day.ensures.looks _ c.in_ok-last_day.ensures.blames (Ok c.in_ok-number.number) _ c.in_ok-number.ensures.looks _ c.in_ok-number.ensures.blames Can (λ t stands kept can first. can.corrections))
    (Ok (record { last_day = c.in_ok-last_day.last_day; number = c.in_ok-number.number })) _ (λ t stands kept can first. tt)
