use Rattle.std.proofs.Common.{◌≡◌, Err, rules}
use Rattle.sqlite.specs.Held.{state}
use Rattle.goo_store_plans.proofs.LookUps.{looks_then, looks_so}
use Rattle.goo_store_plans.proofs.Refusing.{blames_err, blames_so, blames_then}
use Rattle.goo_store_plans.proofs.known_basis.with_both.Goals as goal

pub returns-clause-looks : goal.returns-clause-looks
returns-clause-looks g c =
    let s0 = state g.S.Store c.args.conn.now in
    let s1 = state g.S.Store c.with_number.new.conn in
    let s2 = state g.S.Store c.with_next_lot.new.conn in
    looks_so s0 s2 c.with_next_lot.result _ _ (looks_then s0 s1 s2 c.in_ok-known.known c.with_next_lot.result _ _ c.in_ok-known.ensures.looks c.with_next_lot.ensures.looks)
    (λ t it found both known. both.1 (both.0 known))

pub returns-in_err-known-clause-blames : goal.returns-in_err-known-clause-blames
returns-in_err-known-clause-blames g c =
    let s0 = state g.S.Store c.args.conn.now in
    let s1 = state g.S.Store c.with_number.new.conn in
    let same : c.from_residual.result ≡ Err c.in_err-known.field-0.0 = search rules in
    blames_err s0 s1 c.in_err-known.field-0.0 c.from_residual.result _ same (blames_so s0 s1 (Err c.in_err-known.field-0.0) _ _ c.in_err-known.ensures.blames (λ t stands kept can. can.0))

pub returns-clause-blames : goal.returns-clause-blames
returns-clause-blames g c =
    let s0 = state g.S.Store c.args.conn.now in
    let s1 = state g.S.Store c.with_number.new.conn in
    let s2 = state g.S.Store c.with_next_lot.new.conn in
    blames_then s0 s1 s2 c.in_ok-known.known _ c.in_ok-known.ensures.looks _ c.in_ok-known.ensures.blames c.with_next_lot.result _ c.with_next_lot.ensures.looks _ c.with_next_lot.ensures.blames _
    (λ t stands kept can first. can.1)
