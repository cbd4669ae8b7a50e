use Rattle.std.proofs.Common.{◌≡◌, ◌+◌, ◌-◌, ◌==◌, ◌&&◌, ◌∙◌, cond, ap, arith, rules}
use Rattle.std.specs.Prelude.{string_bytes}
use Rattle.std.specs.List.{list_any}
use Rattle.std.specs.Str.{bytes_eq}
use Rattle.goo_types.specs.Number.{code_of}
use Rattle.goo_spec.specs.Energy.{withdrew}
use Rattle.goo_store_audit.specs.Counting.{share_of}
use Rattle.goo_store_audit.proofs.CountingLemmas.{still_below, issued_alone, issued_counts, corrected_alone, back_counts}
use Rattle.goo_store_audit.proofs.tallies.count_row.Goals as goal
use Rattle.goo_store_rules.specs.Summing.{sum_at}
use Rattle.goo_tables_pages.specs.DevicePieces.{device_piece_in}

pub returns-clause-next : goal.returns-clause-next
returns-clause-next c =
    let old = c.args.tally.now in
    let next = c.in_ok-next.ensures.value in
    let device = c.in_ok-device.device in
    let first = c.args.row.now.piece.first in
    let up = c.requires in (
      next.0,
      omega (arith, next.0, next.1, next.2),
      record {
        most = next.3;
        issued = λ q.
            let low = up.issued q in
            let is = c.in_ok-add_to.ensures q ∙ ap (λ n. sum_at old.issued q + cond (bytes_eq device q) n 0) c.from.ensures in
            still_below (sum_at old.issued q) _ first c.own_count-issued.result c.in_ok-next.next (bytes_eq device q) (omega (arith, low, next.1)) (c.own_count-issued.ensures.most (omega (arith, next.0, next.2))) is;
        corrected = λ q.
            let low = up.corrected q in
            let is = c.in_ok-add_to-2.ensures q ∙ ap (λ n. sum_at old.corrected q + cond (bytes_eq device q) n 0) c.from-2.ensures in
            still_below (sum_at old.corrected q) _ first c.back_count-corrected.result c.in_ok-next.next (bytes_eq device q) (omega (arith, low, next.1)) (c.back_count-corrected.ensures.most (omega (arith, next.0, next.2))) is;
      },
    )

pub returns-clause-added : goal.returns-clause-added
returns-clause-added c =
    let old = c.args.tally.now in
    let row = device_piece_in c.args.row.now in
    let next = c.in_ok-next.ensures.value in
    let device : c.in_ok-device.device ≡ string_bytes c.args.row.now.device = search rules in
    record {
      issued = λ q.
          issued_alone c.args.own (share_of row) q (sum_at old.issued q) _ c.own_count-issued.result (issued_counts c.args.own row c.own_count-issued.result c.in_ok-next.next next.0 c.own_count-issued.ensures.value)
          (c.in_ok-add_to.ensures q ∙ (λ i. sum_at old.issued q + cond (bytes_eq (device i) q) (c.from.ensures i) 0));
      corrected = λ cs are q.
          corrected_alone c.args.own cs (share_of row) q (sum_at old.corrected q) _ c.back_count-corrected.result
          (back_counts c.args.own cs row c.back_count-corrected.result c.in_ok-next.next next.0
          (c.back_count-corrected.ensures.value cs are ∙ (λ i. cond ((c.args.row.now.piece.kind == 4) && list_any (withdrew (device i) c.args.row.now.piece.act) cs) (cond (code_of c.args.row.now.piece.first == c.args.own) (c.in_ok-next.next - c.args.row.now.piece.first) 0) 0)))
          (c.in_ok-add_to-2.ensures q ∙ (λ i. sum_at old.corrected q + cond (bytes_eq (device i) q) (c.from-2.ensures i) 0));
    }
