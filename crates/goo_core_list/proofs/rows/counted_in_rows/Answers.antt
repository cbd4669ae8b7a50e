use Rattle.std.proofs.Common.{sym, ap, subst, take, arith}
use Rattle.goo_types.specs.declared.piece.Piece.{Piece}
use Rattle.goo_types.specs.Piece.{IsForward}
use Rattle.goo_ranges_rows.proofs.CertificateLemmas.{issued-below, corrected-few, forward-at}
use Rattle.goo_core_list.proofs.rows.counted_in_rows.Goals as goal

pub issued_in_row-count-requires : goal.issued_in_row-count-requires
issued_in_row-count-requires c =
    subst IsForward (sym c.row-item.is) (forward-at 0 c.args.rows.now c.loop-row.row-index c.row-item.result c.requires (omega arith))

pub overflow_add-issued : goal.overflow_add-issued
overflow_add-issued c =
    let below = issued-below c.args.own c.args.device.now 0 c.args.rows.now c.loop-row.row-index c.row-item.result c.requires (omega arith) in
    let first = ap (λ (p : Piece). p.first) c.row-item.is in
    let limit = c.issued_in_row-count.ensures.limit in
    let small = c.issued_in_row-count.ensures.small in
    omega (arith, below, first, limit, small, c.loop-row.invariant.0)

pub overflow_add-corrected : goal.overflow_add-corrected
overflow_add-corrected c =
    let below = issued-below c.args.own c.args.device.now 0 c.args.rows.now c.loop-row.row-index c.row-item.result c.requires (omega arith) in
    let few = corrected-few c.args.own c.args.device.now c.args.corrections.now (take c.loop-row.row-index c.args.rows.now) in
    let first = ap (λ (p : Piece). p.first) c.row-item.is in
    let limit = c.issued_in_row-count.ensures.limit in
    let small = c.issued_in_row-count.ensures.small in
    let fewer = c.corrected_in_row-corrected.ensures.limit in
    omega (arith, below, few, first, limit, small, fewer, c.loop-row.invariant.1)
