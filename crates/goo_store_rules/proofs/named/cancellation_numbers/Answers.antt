use Rattle.std.proofs.Common.{arith, false}
use Rattle.std.specs.Cmp.{nat_cmp_total}
use Rattle.goo_store_receipts.specs.declared.cancellations.JudgedCancellation.{JudgedCancellation}
use Rattle.goo_store_rules.proofs.Keying.{row_noted}
use Rattle.goo_store_rules.proofs.named.cancellation_numbers.Goals as goal

pub loop-cancellation-preserved : goal.loop-cancellation-preserved
loop-cancellation-preserved c = λ n.
    row_noted nat_cmp_total (λ (row : JudgedCancellation). row.number) c.args.rows.now c.loop-cancellation.cancellation-index (record { number = 0; account = 0; is_good = false }) n _ _ (omega (arith, c.loop-cancellation-test.true))
    (c.loop-cancellation.invariant n) (c.in_ok-insert.ensures.updates.0 n)
