use Rattle.std.proofs.Common.{◌≡◌, Ok, Err, Some, rules}
use Rattle.sqlite.specs.Held.{state}
use Rattle.goo_store_plans.proofs.LookUps.{looks_made}
use Rattle.goo_store_plans.proofs.Refusing.{blames_err, blames_made}
use Rattle.goo_store_plans.proofs.known_basis.with_next_lot.Goals as goal

pub returns-clause-looks : goal.returns-clause-looks
returns-clause-looks g c =
    looks_made (state g.S.Store c.args.conn.now) (state g.S.Store c.next_lot_number.new.conn) c.in_ok-next_lot.next_lot (Ok (record { device = c.args.known.device; number = c.args.known.number; next_lot = Some c.in_ok-next_lot.next_lot; correction = c.args.known.correction })) _ _
    c.in_ok-next_lot.ensures.looks (λ t it says known. record { device = known.device; number = known.number; next_lot = says known.next_lot; correction = known.correction })

pub returns-in_err-next_lot-clause-blames : goal.returns-in_err-next_lot-clause-blames
returns-in_err-next_lot-clause-blames g c =
    let same : c.from_residual.result ≡ Err c.in_err-next_lot.field-0.0 = search rules in
    blames_err (state g.S.Store c.args.conn.now) (state g.S.Store c.next_lot_number.new.conn) c.in_err-next_lot.field-0.0 c.from_residual.result _ same c.in_err-next_lot.ensures.blames

pub returns-clause-blames : goal.returns-clause-blames
returns-clause-blames g c =
    blames_made (state g.S.Store c.args.conn.now) (state g.S.Store c.next_lot_number.new.conn) c.in_ok-next_lot.next_lot _ c.in_ok-next_lot.ensures.looks _ c.in_ok-next_lot.ensures.blames
    (Ok (record { device = c.args.known.device; number = c.args.known.number; next_lot = Some c.in_ok-next_lot.next_lot; correction = c.args.known.correction })) _ (λ t stands kept room first. tt)
