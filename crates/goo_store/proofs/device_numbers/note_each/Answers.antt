use Rattle.std.proofs.Common.{◌≡◌, ◌∙◌, IsErrAnd, pos, ap, rules}
use Rattle.std.specs.FinMap.{get}
use Rattle.std.specs.Cmp.Lexicographic.{nat_list_cmp_total}
use Rattle.goo_core_shelf.proofs.MapLemmas.{map_of-empty}
use Rattle.goo_tables_rows.specs.Rows.{device_in}
use Rattle.goo_spec_tables.specs.Readable.{is_device}
use Rattle.goo_store_rules.proofs.LotDevices.{at_true}
use Rattle.goo_store.proofs.DevicesApart.{number_free}
use Rattle.goo_store_values.proofs.Unread.{same_fault}
use Rattle.goo_store.proofs.device_numbers.note_each.Goals as goal

pub loop-row-init : goal.loop-row-init
loop-row-init c = map_of-empty nat_list_cmp_total c.new-known.result c.new-known.ensures.empty

pub returns-in_err-note-clause-accepts : goal.returns-in_err-note-clause-accepts
returns-in_err-note-clause-accepts c fits =
    let rows = c.args.rows.now in
    let row = c.row-item.result in
    let told : IsErrAnd c.from_residual.result (λ f. f ≡ c.in_err-note.field-0.0) = search rules in
    same_fault c.from_residual.result c.in_err-note.field-0.0 told
    (c.in_err-note.ensures.accepts (at_true (λ r. is_device (pos 0, device_in r)) rows c.loop-row.row-index row c.loop-row-test.true c.row-item.is fits.each)
    (ap (λ m. get m (device_in row).gsrn) c.loop-row.invariant ∙ number_free rows c.loop-row.row-index row c.loop-row-test.true c.row-item.is (fits.apart (device_in row).gsrn)))
