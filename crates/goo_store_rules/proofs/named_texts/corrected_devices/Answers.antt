use Rattle.std.proofs.Common.{◌≡◌, arith, string_bytes}
use Rattle.goo_tables_rows.specs.Rows.{correction_in}
use Rattle.goo_store_rules.proofs.Keying.{text_noted}
use Rattle.goo_store_rules.proofs.named_texts.corrected_devices.Goals as goal

pub loop-row-preserved : goal.loop-row-preserved
loop-row-preserved c =
    let same : string_bytes c.in_ok-clone.field-0 ≡ string_bytes c.row-item.result.device = c.in_ok-clone.ensures.cases in
    λ text. text_noted correction_in (λ x. x.device) c.args.rows.now c.loop-row.row-index c.row-item.result (string_bytes text) _ _ (omega (arith, c.loop-row-test.true)) c.row-item.is (c.loop-row.invariant text) (rw same at (c.in_ok-insert.ensures.updates.0 text))
