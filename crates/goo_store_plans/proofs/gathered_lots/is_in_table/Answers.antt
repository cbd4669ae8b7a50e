use Rattle.std.proofs.Common.{ap, subst, ◌∙◌}
use Rattle.sqlite.specs.Held.{state}
use Rattle.goo_types.specs.Day.{IsDay}
use Rattle.goo_types.specs.Texts.{day_text}
use Rattle.goo_store_plans.proofs.Gathering.{known_found}
use Rattle.goo_store_plans.proofs.LookUps.{looked_up}
use Rattle.goo_store_plans.proofs.Refusing.{blames_read}
use Rattle.goo_store_plans.proofs.gathered_lots.is_in_table.Goals as goal

pub returns-clause-looks : goal.returns-clause-looks
returns-clause-looks g c =
    looked_up (state g.S.Store c.args.conn.now) (state g.S.Store c.find_lot-found.new.conn) _ _ c.find_lot-found.ensures.looks _ _ c.is_there.result c.is_there.ensures.value
    (λ t stands found there right read.
    known_found t.lots found there _ _ _ c.args.lot.now (c.from.ensures ∙ c.get.ensures.value ∙ c.origin.ensures) (c.text.ensures.value ∙ c.device.ensures)
    (c.as_str.ensures.value ∙ c.text-day.ensures.text ∙ ap day_text c.first_day.ensures) (subst IsDay c.first_day.ensures c.text-day.ensures.limit) right read)

pub returns-clause-blames : goal.returns-clause-blames
returns-clause-blames g c =
    blames_read (state g.S.Store c.args.conn.now) (state g.S.Store c.find_lot-found.new.conn) _ _ c.find_lot-found.ensures.looks _ _ _ c.is_there.result c.find_lot-found.ensures.readable c.is_there.ensures.accepts (λ t can. can.lots)
    (λ t stands kept needs found is. tt)
