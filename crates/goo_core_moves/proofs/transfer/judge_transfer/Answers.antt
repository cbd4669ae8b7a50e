use Rattle.std.proofs.Common.{◌≡◌, ◌∙◌, refl, sym}
use Rattle.std.specs.FinMap.{get}
use Rattle.goo_ranges_rows.specs.Rows.{meeting}
use Rattle.goo_spec.specs.Transfer.{transfer_refusal}
use Rattle.goo_core_moves.specs.Transfer.{entry_checks}
use Rattle.goo_core_rules.specs.Trade.{trade_checks}
use Rattle.goo_core_shelf.proofs.Looking.{looked, looked_or_full, looked_then}
use Rattle.goo_core_moves.proofs.Rulings.{failed_early}
use Rattle.goo_core_moves.proofs.Transferring.{ruled_transfer}
use Rattle.goo_core_moves.proofs.Stopping.{looked_failed, looked_on, looked_past}
use Rattle.goo_core_moves.proofs.transfer.judge_transfer.Goals as goal

pub returns-in-Some : goal.returns-in-Some
unfolding transfer_refusal
returns-in-Some g c =
    let s = (g.S.Shelf.seen c.args.shelf.now).state in
    let x = c.args.transfer.now in
    looked _ _ _ _ _ _ c.in_ok-refusal.ensures (λ none is.
    (refl, failed_early (entry_checks s c.args.caller.now x) (trade_checks (get s.at) x.range x.giver s.today) c.in-Some.refusal (sym is ∙ c.in-Some.is)))

pub returns : goal.returns
returns g c =
    let old = g.S.Shelf.seen c.args.shelf.now in
    let x = c.args.transfer.now in
    let met = looked_then _ _ _ c.in_ok-today.today _ _ (λ s rows met. met.items ≡ meeting x.range rows) c.in_ok-today.ensures c.in_ok-met.ensures.looks in
    let all = looked_then _ _ _ c.in_ok-refusal.field-0 _ _ (λ s rows met. (c.in_ok-today.today ≡ s.today) × (met.items ≡ meeting x.range rows)) c.in_ok-refusal.ensures met in
    looked_or_full old _ c.in_ok-met.met _ _ _ _ all c.move_certificates.ensures.memory c.move_certificates.ensures.ruling (λ none found ruling ruled.
    ruled_transfer old.state old.rows c.in_ok-met.met.items c.args.caller.now x c.in_ok-today.today ruling (c.requires.rows none) (sym found.0 ∙ c.in_default.is) found.1.0 found.1.1 ruled)

pub returns-in_err-refusal : goal.returns-in_err-refusal
returns-in_err-refusal g c = looked_failed _ _ _ _ _ _ c.from_residual.ensures.1 c.in_err-refusal.ensures

pub returns-in_err-today : goal.returns-in_err-today
returns-in_err-today g c = looked_past _ _ _ _ _ _ _ _ _ c.from_residual-in_err-today.ensures.1 c.in_ok-refusal.ensures c.in_err-today.ensures

pub returns-in_err-met : goal.returns-in_err-met
returns-in_err-met g c = looked_past _ _ _ _ _ _ _ _ _ c.from_residual-in_err-met.ensures.1 (looked_on _ _ _ _ _ _ _ c.in_ok-refusal.ensures c.in_ok-today.ensures) c.in_err-met.ensures.looks
