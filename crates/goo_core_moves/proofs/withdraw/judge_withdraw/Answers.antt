use Rattle.std.proofs.Common.{◌≡◌, true, ap, rules}
use Rattle.goo_ranges_rows.specs.Rows.{meeting}
use Rattle.goo_core_shelf.specs.Counters.{NextNumbers}
use Rattle.goo_spec.specs.Checks.{is_issuer}
use Rattle.goo_core_shelf.proofs.Looking.{looked_or_full, looked_then}
use Rattle.goo_core_moves.proofs.Withdrawing.{ruled_withdraw}
use Rattle.goo_core_moves.proofs.Stopping.{looked_failed, looked_past}
use Rattle.goo_core_moves.proofs.withdraw.judge_withdraw.Goals as goal

pub returns : goal.returns
returns g c =
    let old = g.S.Shelf.seen c.args.shelf.now in
    let x = c.args.withdraw.now in
    let issuer : is_issuer c.args.caller.now ≡ true = search rules in
    let met = looked_then old _ _ c.in_ok-counters.counters _ _ (λ s rows met. met.items ≡ meeting x.range rows) c.in_ok-counters.ensures c.in_ok-met.ensures.looks in
    looked_or_full old _ c.in_ok-met.met _ _ _ _ met c.withdraw_certificates.ensures.memory c.withdraw_certificates.ensures.ruling (λ none found ruling ruled.
    ruled_withdraw old.state old.rows c.in_ok-met.met.items c.args.caller.now x c.in_ok-counters.counters.withdrawal ruling (c.requires.rows none) issuer
    (ap (λ (n : NextNumbers). n.withdrawal) found.0) found.1 ruled)

pub returns-in_err-counters : goal.returns-in_err-counters
returns-in_err-counters g c = looked_failed _ _ _ _ _ _ c.from_residual.ensures.1 c.in_err-counters.ensures

pub returns-in_err-met : goal.returns-in_err-met
returns-in_err-met g c = looked_past _ _ _ _ _ _ _ _ _ c.from_residual-in_err-met.ensures.1 c.in_ok-counters.ensures c.in_err-met.ensures.looks
