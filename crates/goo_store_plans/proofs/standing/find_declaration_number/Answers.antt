use Rattle.std.proofs.Common.{pos, ap, option_map, ◌∙◌}
use Rattle.sqlite.specs.Held.{state}
use Rattle.goo_store_plans.specs.LotRows.{next_declaration}
use Rattle.goo_store_plans.proofs.Gathering.{next_declaration_is}
use Rattle.goo_store_plans.proofs.LookUps.{looked_up}
use Rattle.goo_tables_rows.specs.Rows.{declaration_in}
use Rattle.goo_store_plans.proofs.Refusing.{blames_read, low_declaration}
use Rattle.goo_store_plans.proofs.standing.find_declaration_number.Goals as goal

pub returns-clause-looks : goal.returns-clause-looks
returns-clause-looks g c =
    looked_up (state g.S.Store c.args.conn.now) (state g.S.Store c.last_declaration-found.new.conn) _ _ c.last_declaration-found.ensures.looks _ _ c.number_after.result c.number_after.ensures.value
    (λ t stands found n right read. ap pos (read ∙ ap next_declaration right) ∙ next_declaration_is t.declarations)

pub returns-clause-blames : goal.returns-clause-blames
returns-clause-blames g c =
    blames_read (state g.S.Store c.args.conn.now) (state g.S.Store c.last_declaration-found.new.conn) _ _ c.last_declaration-found.ensures.looks _ _ _ c.number_after.result c.last_declaration-found.ensures.readable c.number_after.ensures.accepts
    (λ t can. can.declarations)
    (λ t stands kept room found is. low_declaration found (room (next_declaration (option_map declaration_in found)) (ap (λ o. pos (next_declaration o)) is ∙ next_declaration_is t.declarations)))
