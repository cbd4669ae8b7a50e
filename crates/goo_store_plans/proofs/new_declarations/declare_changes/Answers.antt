use Rattle.std.proofs.Common.{◌≡◌, Err, rules}
use Rattle.sqlite.specs.Held.{state}
use Rattle.goo_tables_rows.proofs.Results.{if_ok}
use Rattle.goo_store_plans.proofs.LookUps.{looks_made}
use Rattle.goo_store_plans.proofs.Refusing.{blames_err, blames_made, blames_so}
use Rattle.goo_store_plans.proofs.new_declarations.declare_changes.Goals as goal

pub returns-clause-looks : goal.returns-clause-looks
returns-clause-looks g c =
    looks_made (state g.S.Store c.args.conn.now) (state g.S.Store c.find_standing.new.conn) c.in_ok-standing.standing c.declared_changes.result _ _ c.in_ok-standing.ensures.looks
    (λ t it standing. if_ok c.declared_changes.result c.declared_changes.ensures.carries (λ gathered carries q reply command reply_is meta device accepted.
    carries t q reply (record { command_is = command; reply_is = reply_is; accepted = accepted; meta_is = meta; standing = standing device; declarations_rise = it.declarations.rise; lots_rise = it.lots.rise })))

pub returns-in_err-standing-clause-blames : goal.returns-in_err-standing-clause-blames
returns-in_err-standing-clause-blames g c =
    let s0 = state g.S.Store c.args.conn.now in
    let s1 = state g.S.Store c.find_standing.new.conn in
    let same : c.from_residual.result ≡ Err c.in_err-standing.field-0.0 = search rules in
    blames_err s0 s1 c.in_err-standing.field-0.0 c.from_residual.result _ same (blames_so s0 s1 (Err c.in_err-standing.field-0.0) _ _ c.in_err-standing.ensures.blames (λ t stands kept can. can.standing))

pub returns-clause-blames : goal.returns-clause-blames
returns-clause-blames g c =
    blames_made (state g.S.Store c.args.conn.now) (state g.S.Store c.find_standing.new.conn) c.in_ok-standing.standing _ c.in_ok-standing.ensures.looks _ c.in_ok-standing.ensures.blames c.declared_changes.result _
    (λ t stands kept can standing. c.declared_changes.ensures.memory (can.limits c.in_ok-standing.standing (standing can.kept_is)))
