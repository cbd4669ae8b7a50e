use Rattle.std.proofs.Common.{◌≡◌, Ok, Err, rules}
use Rattle.sqlite.specs.Held.{state}
use Rattle.goo_store_plans.proofs.LookUps.{looks_failed, looks_made, looks_then}
use Rattle.goo_tables_rows.specs.Rows.{Tables}
use Rattle.goo_store_plans.specs.AtHand.{HasStanding}
use Rattle.goo_store_plans.proofs.Refusing.{blames_err, blames_made, blames_so, blames_then}
use Rattle.goo_store_plans.proofs.standing.find_standing.Goals as goal

pub returns-in_err-number-clause-looks : goal.returns-in_err-number-clause-looks
returns-in_err-number-clause-looks g c =
    let s0 = state g.S.Store c.args.conn.now in
    let s1 = state g.S.Store c.known_registered.new.conn in
    let s2 = state g.S.Store c.next_declaration_number.new.conn in
    looks_failed s0 s2 c.next_declaration_number.result c.from_residual-in_err-number.result _ _ (search rules)
    (looks_then s0 s1 s2 c.in_ok-device.device c.next_declaration_number.result _ _ c.in_ok-device.ensures.looks c.next_declaration_number.ensures.looks)

pub returns-in_err-next_lot-clause-looks : goal.returns-in_err-next_lot-clause-looks
returns-in_err-next_lot-clause-looks g c =
    let s0 = state g.S.Store c.args.conn.now in
    let s1 = state g.S.Store c.known_registered.new.conn in
    let s2 = state g.S.Store c.next_declaration_number.new.conn in
    let s3 = state g.S.Store c.next_lot_number.new.conn in
    looks_failed s0 s3 c.next_lot_number.result c.from_residual-in_err-next_lot.result _ _ (search rules)
    (looks_then s0 s2 s3 c.in_ok-number.number c.next_lot_number.result _ _
    (looks_then s0 s1 s2 c.in_ok-device.device (Ok c.in_ok-number.number) _ _ c.in_ok-device.ensures.looks c.in_ok-number.ensures.looks) c.next_lot_number.ensures.looks)

pub returns-clause-looks : goal.returns-clause-looks
returns-clause-looks g c =
    let s0 = state g.S.Store c.args.conn.now in
    let s1 = state g.S.Store c.known_registered.new.conn in
    let s2 = state g.S.Store c.next_declaration_number.new.conn in
    let s3 = state g.S.Store c.next_lot_number.new.conn in
    looks_made s0 s3 c.in_ok-next_lot.next_lot (Ok (record { device = c.in_ok-device.device; number = c.in_ok-number.number; next_lot = c.in_ok-next_lot.next_lot })) _ _
    (looks_then s0 s2 s3 c.in_ok-number.number (Ok c.in_ok-next_lot.next_lot) _ _
    (looks_then s0 s1 s2 c.in_ok-device.device (Ok c.in_ok-number.number) _ _ c.in_ok-device.ensures.looks c.in_ok-number.ensures.looks) c.in_ok-next_lot.ensures.looks)
    (λ t it both known. record { device = both.0.0 known.device; number = both.0.1 known.number; next_lot = both.1 known.next_lot })

pub returns-in_err-device-clause-blames : goal.returns-in_err-device-clause-blames
returns-in_err-device-clause-blames g c =
    let s0 = state g.S.Store c.args.conn.now in
    let s1 = state g.S.Store c.known_registered.new.conn in
    let same : c.from_residual.result ≡ Err c.in_err-device.field-0.0 = search rules in
    blames_err s0 s1 c.in_err-device.field-0.0 c.from_residual.result _ same (blames_so s0 s1 (Err c.in_err-device.field-0.0) _ _ c.in_err-device.ensures.blames (λ t stands kept can. can.device))

pub returns-in_err-number-clause-blames : goal.returns-in_err-number-clause-blames
returns-in_err-number-clause-blames g c =
    let s0 = state g.S.Store c.args.conn.now in
    let s1 = state g.S.Store c.known_registered.new.conn in
    let s2 = state g.S.Store c.next_declaration_number.new.conn in
    let same : c.from_residual-in_err-number.result ≡ Err c.in_err-number.field-0.0 = search rules in
    blames_err s0 s2 c.in_err-number.field-0.0 c.from_residual-in_err-number.result _ same
    (blames_then s0 s1 s2 c.in_ok-device.device _ c.in_ok-device.ensures.looks _ c.in_ok-device.ensures.blames (Err c.in_err-number.field-0.0) _ c.in_err-number.ensures.looks _ c.in_err-number.ensures.blames _
    (λ t stands kept can first. can.declarations))

pub returns-in_err-next_lot-clause-blames : goal.returns-in_err-next_lot-clause-blames
returns-in_err-next_lot-clause-blames g c =
    let s0 = state g.S.Store c.args.conn.now in
    let s1 = state g.S.Store c.known_registered.new.conn in
    let s2 = state g.S.Store c.next_declaration_number.new.conn in
    let s3 = state g.S.Store c.next_lot_number.new.conn in
    let Can : Tables → Type 0 = λ t. HasStanding t c.args.gsrn.now in
    let same : c.from_residual-in_err-next_lot.result ≡ Err c.in_err-next_lot.field-0.0 = search rules in
    blames_err s0 s3 c.in_err-next_lot.field-0.0 c.from_residual-in_err-next_lot.result _ same
    (blames_then s0 s2 s3 c.in_ok-number.number _ (looks_then s0 s1 s2 c.in_ok-device.device (Ok c.in_ok-number.number) _ _ c.in_ok-device.ensures.looks c.in_ok-number.ensures.looks)
    Can (blames_then s0 s1 s2 c.in_ok-device.device _ c.in_ok-device.ensures.looks _ c.in_ok-device.ensures.blames (Ok c.in_ok-number.number) _ c.in_ok-number.ensures.looks _ c.in_ok-number.ensures.blames Can (λ t stands kept can first. can.declarations))
    (Err c.in_err-next_lot.field-0.0) _ c.in_err-next_lot.ensures.looks _ c.in_err-next_lot.ensures.blames _
    (λ t stands kept can first. can.lots))

pub returns-clause-blames : goal.returns-clause-blames
returns-clause-blames g c =
    let s0 = state g.S.Store c.args.conn.now in
    let s1 = state g.S.Store c.known_registered.new.conn in
    let s2 = state g.S.Store c.next_declaration_number.new.conn in
    let s3 = state g.S.Store c.next_lot_number.new.conn in
    let Can : Tables → Type 0 = λ t. HasStanding t c.args.gsrn.now in
    let two = looks_then s0 s1 s2 c.in_ok-device.device (Ok c.in_ok-number.number) _ _ c.in_ok-device.ensures.looks c.in_ok-number.ensures.looks in
    blames_made s0 s3 c.in_ok-next_lot.next_lot _ (looks_then s0 s2 s3 c.in_ok-number.number (Ok c.in_ok-next_lot.next_lot) _ _ two c.in_ok-next_lot.ensures.looks)
    Can (blames_then s0 s2 s3 c.in_ok-number.number _ two
    Can (blames_then s0 s1 s2 c.in_ok-device.device _ c.in_ok-device.ensures.looks _ c.in_ok-device.ensures.blames (Ok c.in_ok-number.number) _ c.in_ok-number.ensures.looks _ c.in_ok-number.ensures.blames Can (λ t stands kept can first. can.declarations))
    (Ok c.in_ok-next_lot.next_lot) _ c.in_ok-next_lot.ensures.looks _ c.in_ok-next_lot.ensures.blames Can (λ t stands kept can first. can.lots))
    (Ok (record { device = c.in_ok-device.device; number = c.in_ok-number.number; next_lot = c.in_ok-next_lot.next_lot })) _ (λ t stands kept can first. tt)
