use Rattle.std.proofs.Common.{◌≡◌, true, refl}
use Rattle.goo_tables_rows.specs.Rows.{lot_in}
use Rattle.goo_tables_accounts.specs.Changes.{LotFits}
use Rattle.goo_spec_tables.specs.Kept.{IsKeptLot}
use Rattle.goo_spec_tables.specs.Places.{lot_of}
use Rattle.goo_spec_tables.specs.Readable.{is_lot}
use Rattle.goo_store_values.specs.declared.statement_fault.StatementFault.TheVariants.{Memory}
use Rattle.goo_store_plans.proofs.Failing.{none_made, only_for}
use Rattle.goo_store_plans.proofs.new_lots.lot_row.Goals as goal

pub returns-in_err-from_str-clause-id : goal.returns-in_err-from_str-clause-id
returns-in_err-from_str-clause-id c = none_made c.from_residual.result (λ row. row.id ≡ c.args.number) c.from_residual.ensures.0

pub returns-in_err-from_str-clause-states : goal.returns-in_err-from_str-clause-states
returns-in_err-from_str-clause-states c = none_made c.from_residual.result (λ row. lot_of (lot_in row) ≡ c.args.lot.now) c.from_residual.ensures.0

pub returns-in_err-from_str-clause-reads : goal.returns-in_err-from_str-clause-reads
returns-in_err-from_str-clause-reads c = none_made c.from_residual.result (λ row. is_lot (lot_in row) ≡ true) c.from_residual.ensures.0

pub returns-in_err-from_str-clause-kept : goal.returns-in_err-from_str-clause-kept
returns-in_err-from_str-clause-kept c = none_made c.from_residual.result (λ row. IsKeptLot (lot_in row)) c.from_residual.ensures.0

pub returns-in_err-from_str-clause-fits : goal.returns-in_err-from_str-clause-fits
returns-in_err-from_str-clause-fits c = none_made c.from_residual.result LotFits c.from_residual.ensures.0

pub returns-in_err-from_str-clause-memory : goal.returns-in_err-from_str-clause-memory
returns-in_err-from_str-clause-memory c small = only_for Memory c.from_residual.result c.from_residual.ensures.1

pub returns-in_err-plant_row-clause-id : goal.returns-in_err-plant_row-clause-id
returns-in_err-plant_row-clause-id c = none_made c.from_residual-in_err-plant_row.result (λ row. row.id ≡ c.args.number) c.from_residual-in_err-plant_row.ensures.0

pub returns-in_err-plant_row-clause-states : goal.returns-in_err-plant_row-clause-states
returns-in_err-plant_row-clause-states c = none_made c.from_residual-in_err-plant_row.result (λ row. lot_of (lot_in row) ≡ c.args.lot.now) c.from_residual-in_err-plant_row.ensures.0

pub returns-in_err-plant_row-clause-reads : goal.returns-in_err-plant_row-clause-reads
returns-in_err-plant_row-clause-reads c = none_made c.from_residual-in_err-plant_row.result (λ row. is_lot (lot_in row) ≡ true) c.from_residual-in_err-plant_row.ensures.0

pub returns-in_err-plant_row-clause-kept : goal.returns-in_err-plant_row-clause-kept
returns-in_err-plant_row-clause-kept c = none_made c.from_residual-in_err-plant_row.result (λ row. IsKeptLot (lot_in row)) c.from_residual-in_err-plant_row.ensures.0

pub returns-in_err-plant_row-clause-fits : goal.returns-in_err-plant_row-clause-fits
returns-in_err-plant_row-clause-fits c = none_made c.from_residual-in_err-plant_row.result LotFits c.from_residual-in_err-plant_row.ensures.0

pub returns-in_err-plant_row-clause-memory : goal.returns-in_err-plant_row-clause-memory
returns-in_err-plant_row-clause-memory c small = only_for Memory c.from_residual-in_err-plant_row.result c.from_residual-in_err-plant_row.ensures.1

pub returns-in_err-day_string-clause-id : goal.returns-in_err-day_string-clause-id
returns-in_err-day_string-clause-id c = none_made c.from_residual-in_err-day_string.result (λ row. row.id ≡ c.args.number) c.from_residual-in_err-day_string.ensures.0

pub returns-in_err-day_string-clause-states : goal.returns-in_err-day_string-clause-states
returns-in_err-day_string-clause-states c = none_made c.from_residual-in_err-day_string.result (λ row. lot_of (lot_in row) ≡ c.args.lot.now) c.from_residual-in_err-day_string.ensures.0

pub returns-in_err-day_string-clause-reads : goal.returns-in_err-day_string-clause-reads
returns-in_err-day_string-clause-reads c = none_made c.from_residual-in_err-day_string.result (λ row. is_lot (lot_in row) ≡ true) c.from_residual-in_err-day_string.ensures.0

pub returns-in_err-day_string-clause-kept : goal.returns-in_err-day_string-clause-kept
returns-in_err-day_string-clause-kept c = none_made c.from_residual-in_err-day_string.result (λ row. IsKeptLot (lot_in row)) c.from_residual-in_err-day_string.ensures.0

pub returns-in_err-day_string-clause-fits : goal.returns-in_err-day_string-clause-fits
returns-in_err-day_string-clause-fits c = none_made c.from_residual-in_err-day_string.result LotFits c.from_residual-in_err-day_string.ensures.0

pub returns-in_err-day_string-clause-memory : goal.returns-in_err-day_string-clause-memory
returns-in_err-day_string-clause-memory c small = only_for Memory c.from_residual-in_err-day_string.result c.from_residual-in_err-day_string.ensures.1

pub returns-in_err-day_string-2-clause-id : goal.returns-in_err-day_string-2-clause-id
returns-in_err-day_string-2-clause-id c = none_made c.from_residual-in_err-day_string-2.result (λ row. row.id ≡ c.args.number) c.from_residual-in_err-day_string-2.ensures.0

pub returns-in_err-day_string-2-clause-states : goal.returns-in_err-day_string-2-clause-states
returns-in_err-day_string-2-clause-states c = none_made c.from_residual-in_err-day_string-2.result (λ row. lot_of (lot_in row) ≡ c.args.lot.now) c.from_residual-in_err-day_string-2.ensures.0

pub returns-in_err-day_string-2-clause-reads : goal.returns-in_err-day_string-2-clause-reads
returns-in_err-day_string-2-clause-reads c = none_made c.from_residual-in_err-day_string-2.result (λ row. is_lot (lot_in row) ≡ true) c.from_residual-in_err-day_string-2.ensures.0

pub returns-in_err-day_string-2-clause-kept : goal.returns-in_err-day_string-2-clause-kept
returns-in_err-day_string-2-clause-kept c = none_made c.from_residual-in_err-day_string-2.result (λ row. IsKeptLot (lot_in row)) c.from_residual-in_err-day_string-2.ensures.0

pub returns-in_err-day_string-2-clause-fits : goal.returns-in_err-day_string-2-clause-fits
returns-in_err-day_string-2-clause-fits c = none_made c.from_residual-in_err-day_string-2.result LotFits c.from_residual-in_err-day_string-2.ensures.0

pub returns-in_err-day_string-2-clause-memory : goal.returns-in_err-day_string-2-clause-memory
returns-in_err-day_string-2-clause-memory c small = only_for Memory c.from_residual-in_err-day_string-2.result c.from_residual-in_err-day_string-2.ensures.1

pub returns-in_err-maybe_day_string-clause-id : goal.returns-in_err-maybe_day_string-clause-id
returns-in_err-maybe_day_string-clause-id c = none_made c.from_residual-in_err-maybe_day_string.result (λ row. row.id ≡ c.args.number) c.from_residual-in_err-maybe_day_string.ensures.0

pub returns-in_err-maybe_day_string-clause-states : goal.returns-in_err-maybe_day_string-clause-states
returns-in_err-maybe_day_string-clause-states c = none_made c.from_residual-in_err-maybe_day_string.result (λ row. lot_of (lot_in row) ≡ c.args.lot.now) c.from_residual-in_err-maybe_day_string.ensures.0

pub returns-in_err-maybe_day_string-clause-reads : goal.returns-in_err-maybe_day_string-clause-reads
returns-in_err-maybe_day_string-clause-reads c = none_made c.from_residual-in_err-maybe_day_string.result (λ row. is_lot (lot_in row) ≡ true) c.from_residual-in_err-maybe_day_string.ensures.0

pub returns-in_err-maybe_day_string-clause-kept : goal.returns-in_err-maybe_day_string-clause-kept
returns-in_err-maybe_day_string-clause-kept c = none_made c.from_residual-in_err-maybe_day_string.result (λ row. IsKeptLot (lot_in row)) c.from_residual-in_err-maybe_day_string.ensures.0

pub returns-in_err-maybe_day_string-clause-fits : goal.returns-in_err-maybe_day_string-clause-fits
returns-in_err-maybe_day_string-clause-fits c = none_made c.from_residual-in_err-maybe_day_string.result LotFits c.from_residual-in_err-maybe_day_string.ensures.0

pub returns-in_err-maybe_day_string-clause-memory : goal.returns-in_err-maybe_day_string-clause-memory
returns-in_err-maybe_day_string-clause-memory c small = only_for Memory c.from_residual-in_err-maybe_day_string.result c.from_residual-in_err-maybe_day_string.ensures.1

pub returns-in_err-day_string-3-clause-id : goal.returns-in_err-day_string-3-clause-id
returns-in_err-day_string-3-clause-id c = none_made c.from_residual-in_err-day_string-3.result (λ row. row.id ≡ c.args.number) c.from_residual-in_err-day_string-3.ensures.0

pub returns-in_err-day_string-3-clause-states : goal.returns-in_err-day_string-3-clause-states
returns-in_err-day_string-3-clause-states c = none_made c.from_residual-in_err-day_string-3.result (λ row. lot_of (lot_in row) ≡ c.args.lot.now) c.from_residual-in_err-day_string-3.ensures.0

pub returns-in_err-day_string-3-clause-reads : goal.returns-in_err-day_string-3-clause-reads
returns-in_err-day_string-3-clause-reads c = none_made c.from_residual-in_err-day_string-3.result (λ row. is_lot (lot_in row) ≡ true) c.from_residual-in_err-day_string-3.ensures.0

pub returns-in_err-day_string-3-clause-kept : goal.returns-in_err-day_string-3-clause-kept
returns-in_err-day_string-3-clause-kept c = none_made c.from_residual-in_err-day_string-3.result (λ row. IsKeptLot (lot_in row)) c.from_residual-in_err-day_string-3.ensures.0

pub returns-in_err-day_string-3-clause-fits : goal.returns-in_err-day_string-3-clause-fits
returns-in_err-day_string-3-clause-fits c = none_made c.from_residual-in_err-day_string-3.result LotFits c.from_residual-in_err-day_string-3.ensures.0

pub returns-in_err-day_string-3-clause-memory : goal.returns-in_err-day_string-3-clause-memory
returns-in_err-day_string-3-clause-memory c small = only_for Memory c.from_residual-in_err-day_string-3.result c.from_residual-in_err-day_string-3.ensures.1

pub returns-in_err-carrier_string-clause-id : goal.returns-in_err-carrier_string-clause-id
returns-in_err-carrier_string-clause-id c = none_made c.from_residual-in_err-carrier_string.result (λ row. row.id ≡ c.args.number) c.from_residual-in_err-carrier_string.ensures.0

pub returns-in_err-carrier_string-clause-states : goal.returns-in_err-carrier_string-clause-states
returns-in_err-carrier_string-clause-states c = none_made c.from_residual-in_err-carrier_string.result (λ row. lot_of (lot_in row) ≡ c.args.lot.now) c.from_residual-in_err-carrier_string.ensures.0

pub returns-in_err-carrier_string-clause-reads : goal.returns-in_err-carrier_string-clause-reads
returns-in_err-carrier_string-clause-reads c = none_made c.from_residual-in_err-carrier_string.result (λ row. is_lot (lot_in row) ≡ true) c.from_residual-in_err-carrier_string.ensures.0

pub returns-in_err-carrier_string-clause-kept : goal.returns-in_err-carrier_string-clause-kept
returns-in_err-carrier_string-clause-kept c = none_made c.from_residual-in_err-carrier_string.result (λ row. IsKeptLot (lot_in row)) c.from_residual-in_err-carrier_string.ensures.0

pub returns-in_err-carrier_string-clause-fits : goal.returns-in_err-carrier_string-clause-fits
returns-in_err-carrier_string-clause-fits c = none_made c.from_residual-in_err-carrier_string.result LotFits c.from_residual-in_err-carrier_string.ensures.0

pub returns-in_err-carrier_string-clause-memory : goal.returns-in_err-carrier_string-clause-memory
returns-in_err-carrier_string-clause-memory c small = only_for Memory c.from_residual-in_err-carrier_string.result c.from_residual-in_err-carrier_string.ensures.1

pub returns-clause-id : goal.returns-clause-id
returns-clause-id c = refl
