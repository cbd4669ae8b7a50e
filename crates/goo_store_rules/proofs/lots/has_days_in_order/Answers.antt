use Rattle.goo_tables_rows.specs.Rows.{lot_in}
use Rattle.goo_spec_tables.specs.Places.{lot_of}
use Rattle.goo_store_rules.proofs.lots.has_days_in_order.Goals as goal

pub returns-in-Some : goal.returns-in-Some
returns-in-Some c = λ good. c.are_in_order.ensures (lot_of (lot_in c.args.row.now)) c.in-Some.ensures.value
