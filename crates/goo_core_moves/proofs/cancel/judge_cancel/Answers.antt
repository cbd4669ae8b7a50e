use Rattle.std.proofs.Common.{◌≡◌, ◌∙◌, refl, ap, sym}
use Rattle.std.specs.FinMap.{get}
use Rattle.goo_ranges_rows.specs.Rows.{meeting}
use Rattle.goo_core_shelf.specs.Counters.{NextNumbers, counters_of}
use Rattle.goo_spec.specs.Cancel.{cancel_refusal}
use Rattle.goo_core_moves.specs.Cancel.{entry_checks, range_checks}
use Rattle.goo_core_shelf.proofs.Looking.{looked, looked_or_full, looked_then}
use Rattle.goo_core_moves.proofs.Rulings.{failed_early}
use Rattle.goo_core_moves.proofs.Cancelling.{ruled_cancel}
use Rattle.goo_core_moves.proofs.Stopping.{looked_failed, looked_on, looked_past}
use Rattle.goo_core_moves.proofs.cancel.judge_cancel.Goals as goal

pub returns-in-Some : goal.returns-in-Some
unfolding cancel_refusal
returns-in-Some g c =
    let s = (g.S.Shelf.seen c.args.shelf.now).state in
    let x = c.args.cancel.now in
    looked _ _ _ _ _ _ c.in_ok-refusal.ensures (λ none is.
    (refl, failed_early (entry_checks s c.args.caller.now x) (range_checks (get s.at) s.next_cancellation x) c.in-Some.refusal (sym is ∙ c.in-Some.is)))

pub returns : goal.returns
returns g c =
    let old = g.S.Shelf.seen c.args.shelf.now in
    let x = c.args.cancel.now in
    let met = looked_then _ _ _ c.in_ok-counters.counters _ _ (λ s rows met. met.items ≡ meeting x.range rows) c.in_ok-counters.ensures c.in_ok-met.ensures.looks in
    let all = looked_then _ _ _ c.in_ok-refusal.field-0 _ _ (λ s rows met. (c.in_ok-counters.counters ≡ counters_of s) × (met.items ≡ meeting x.range rows)) c.in_ok-refusal.ensures met in
    looked_or_full old _ c.in_ok-met.met _ _ _ _ all c.cancel_certificates.ensures.memory c.cancel_certificates.ensures.ruling (λ none found ruling ruled.
    ruled_cancel old.state old.rows c.in_ok-met.met.items c.args.caller.now x c.in_ok-counters.counters.cancellation ruling (c.requires.rows none) (sym found.0 ∙ c.in_default.is)
    (ap (λ (n : NextNumbers). n.cancellation) found.1.0) found.1.1 ruled)

pub returns-in_err-refusal : goal.returns-in_err-refusal
returns-in_err-refusal g c = looked_failed _ _ _ _ _ _ c.from_residual.ensures.1 c.in_err-refusal.ensures

pub returns-in_err-counters : goal.returns-in_err-counters
returns-in_err-counters g c = looked_past _ _ _ _ _ _ _ _ _ c.from_residual-in_err-counters.ensures.1 c.in_ok-refusal.ensures c.in_err-counters.ensures

pub returns-in_err-met : goal.returns-in_err-met
returns-in_err-met g c = looked_past _ _ _ _ _ _ _ _ _ c.from_residual-in_err-met.ensures.1 (looked_on _ _ _ _ _ _ _ c.in_ok-refusal.ensures c.in_ok-counters.ensures) c.in_err-met.ensures.looks
