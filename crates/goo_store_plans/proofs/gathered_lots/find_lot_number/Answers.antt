use Rattle.std.proofs.Common.{pos, ap, option_map, ◌∙◌}
use Rattle.sqlite.specs.Held.{state}
use Rattle.goo_store_open.proofs.Carrying.{lots_read}
use Rattle.goo_store_plans.specs.LotRows.{next_lot}
use Rattle.goo_store_plans.proofs.Gathering.{next_lot_is}
use Rattle.goo_store_plans.proofs.LookUps.{looked_up}
use Rattle.goo_tables_rows.specs.Rows.{lot_in}
use Rattle.goo_store_plans.proofs.Refusing.{blames_read, low_lot}
use Rattle.goo_store_plans.proofs.gathered_lots.find_lot_number.Goals as goal

pub returns-clause-looks : goal.returns-clause-looks
returns-clause-looks g c =
    looked_up (state g.S.Store c.args.conn.now) (state g.S.Store c.last_lot-found.new.conn) _ _ c.last_lot-found.ensures.looks _ _ c.number_after.result c.number_after.ensures.value
    (λ t stands found n right read. ap pos (read ∙ ap next_lot right) ∙ next_lot_is t.lots)

pub returns-clause-blames : goal.returns-clause-blames
returns-clause-blames g c =
    blames_read (state g.S.Store c.args.conn.now) (state g.S.Store c.last_lot-found.new.conn) _ _ c.last_lot-found.ensures.looks _ _ _ c.number_after.result c.last_lot-found.ensures.readable c.number_after.ensures.accepts (λ t can. lots_read t.lots can.lots)
    (λ t stands kept room found is. low_lot found (room (next_lot (option_map lot_in found)) (ap (λ o. pos (next_lot o)) is ∙ next_lot_is t.lots)))
