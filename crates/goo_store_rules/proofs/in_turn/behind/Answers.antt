use Rattle.std.proofs.Common.{rules, ◌≡◌, ◌+◌, ◌-◌, ◌∙◌, Some, length, sym}
use Rattle.goo_tables_rows.specs.Rows.{lot_in}
use Rattle.goo_store_rules.proofs.InTurn.{is_there, is_among}
use Rattle.goo_store_rules.proofs.in_turn.behind.Goals as goal

pub returns-clause-declared : goal.returns-clause-declared
returns-clause-declared c = let at : c.place_of.result ≡ Some c.in_ok-place.place = search rules in is_there (lot_in c.args.lot.now) c.args.declarations.now c.in_ok-place.place (sym c.place_of.ensures ∙ at)

pub returns-clause-among : goal.returns-clause-among
returns-clause-among c = let ds = c.args.declarations.now in is_among ds (length ds - (c.in_ok-place.place + 1)) (c.in_ok-place.place + 1)
