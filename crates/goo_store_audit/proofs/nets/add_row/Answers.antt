use Rattle.std.proofs.Common.{◌≡◌, ◌+◌, ◌∙◌, cond, ap, sym, arith, rules}
use Rattle.std.specs.Prelude.{string_bytes}
use Rattle.std.specs.Str.{bytes_eq}
use Rattle.goo_store_rules.specs.Summing.{sum_at}
use Rattle.goo_store_audit.proofs.NetLemmas.{net_alone, sum_below}
use Rattle.goo_store_audit.proofs.nets.add_row.Goals as goal
use Rattle.goo_tables_pages.specs.NetRows.{net_in}

pub returns-clause-added : goal.returns-clause-added
returns-clause-added c q =
    let device : c.in_ok-device.device ≡ string_bytes c.args.row.now.device = search rules in
    net_alone (net_in c.args.row.now) q (sum_at c.args.sums.now q) _ c.saturating_sub-net.result c.saturating_sub-net.ensures
    (c.in_ok-add_to.ensures q ∙ (λ i. sum_at c.args.sums.now q + cond (bytes_eq (device i) q) (c.from.ensures i) 0))

pub returns-clause-next : goal.returns-clause-next
returns-clause-next c =
    let number = c.in_ok-number.ensures.value in (
      sym number.0,
      omega (arith, number.1),
      record {
        most = omega (arith, number.2);
        each = λ q.
            sum_below (sum_at c.args.sums.now q) _ c.args.low _ c.saturating_sub-net.result (bytes_eq c.in_ok-device.device q) (c.requires.each q) (omega arith) (omega (arith, number.1))
            (c.in_ok-add_to.ensures q ∙ ap (λ n. sum_at c.args.sums.now q + cond (bytes_eq c.in_ok-device.device q) n 0) c.from.ensures);
      },
    )
