use Rattle.std.proofs.Common.{pos, ap, option_map, ◌∙◌}
use Rattle.sqlite.specs.Held.{state}
use Rattle.goo_store_plans.specs.LotRows.{next_correction}
use Rattle.goo_store_plans.proofs.Gathering.{next_correction_is}
use Rattle.goo_store_plans.proofs.LookUps.{looked_up}
use Rattle.goo_tables_rows.specs.Rows.{correction_in}
use Rattle.goo_store_plans.proofs.Refusing.{blames_read, low_correction}
use Rattle.goo_store_plans.proofs.correction_basis.find_correction_number.Goals as goal

pub returns-clause-looks : goal.returns-clause-looks
returns-clause-looks g c =
    looked_up (state g.S.Store c.args.conn.now) (state g.S.Store c.last_correction-found.new.conn) _ _ c.last_correction-found.ensures.looks _ _ c.number_after.result c.number_after.ensures.value
    (λ t stands found n right read. ap pos (read ∙ ap next_correction right) ∙ next_correction_is t.corrections)

pub returns-clause-blames : goal.returns-clause-blames
returns-clause-blames g c =
    blames_read (state g.S.Store c.args.conn.now) (state g.S.Store c.last_correction-found.new.conn) _ _ c.last_correction-found.ensures.looks _ _ _ c.number_after.result c.last_correction-found.ensures.readable c.number_after.ensures.accepts
    (λ t can. can.corrections)
    (λ t stands kept room found is. low_correction found (room (next_correction (option_map correction_in found)) (ap (λ o. pos (next_correction o)) is ∙ next_correction_is t.corrections)))
