use Rattle.sqlite.specs.Held.{state}
use Rattle.goo_store_plans.proofs.LookUps.{looked_up}
use Rattle.goo_store_plans.proofs.RowsGathered.{number_is_found}
use Rattle.std.proofs.Common.{ap, subst, ◌∙◌}
use Rattle.goo_types.specs.Day.{IsDay}
use Rattle.goo_types.specs.Texts.{day_text}
use Rattle.goo_tables_rows.specs.Rows.{lot_in}
use Rattle.goo_spec_tables.specs.States.{state_of}
use Rattle.goo_store_values.specs.Reading.{IsReadableLot}
use Rattle.goo_store_plans.proofs.Refusing.{blames_read, lot_read}
use Rattle.goo_store_values.proofs.RowsRead.{found_row, lots_kept}
use Rattle.goo_store_plans.proofs.lot_numbers.find_number.Goals as goal

pub returns-clause-looks : goal.returns-clause-looks
returns-clause-looks g c =
    looked_up (state g.S.Store c.args.conn.now) (state g.S.Store c.find_lot-found.new.conn) _ _ c.find_lot-found.ensures.looks _ _ c.number_found.result c.number_found.ensures.value
    (λ t stands found n right row. number_is_found _ t.lots _ n c.args.lot.now stands.lots.rise right row)

pub returns-clause-blames : goal.returns-clause-blames
unfolding state_of
returns-clause-blames g c =
    blames_read (state g.S.Store c.args.conn.now) (state g.S.Store c.find_lot-found.new.conn) _ _ c.find_lot-found.ensures.looks _ _ _ c.number_found.result c.find_lot-found.ensures.readable c.number_found.ensures.accepts (λ t can. can.lots)
    (λ t stands kept knows found is.
    lot_read t.lots found _ _ _ c.args.lot.now (c.from.ensures ∙ c.get.ensures.value ∙ c.origin.ensures) (c.text.ensures.value ∙ c.device.ensures)
    (c.as_str.ensures.value ∙ c.text-day.ensures.text ∙ ap day_text c.first_day.ensures) (subst IsDay c.first_day.ensures c.text-day.ensures.limit) is knows
    (found_row lot_in IsReadableLot _ t.lots (lots_kept (state g.S.Store c.args.conn.now).now t stands kept) found is))
