use Rattle.std.proofs.Common.{◌∙◌, sym}
use Rattle.goo_core_shelf.specs.Rows.{expiring_on}
use Rattle.goo_core_moves.specs.Advance.{IsExpiry}
use Rattle.goo_core_moves.proofs.Expiring.{ruled_advance}
use Rattle.goo_core_shelf.proofs.Looking.{looked, looked_then}
use Rattle.goo_core_moves.proofs.Stopping.{looked_failed, looked_past}
use Rattle.goo_core_moves.proofs.advance.judge_advance.Goals as goal

pub returns : goal.returns
returns g c =
    let old = g.S.Shelf.seen c.args.shelf.now in
    let x = c.args.advance.now in
    let expiry = c.in_ok-expiry.expiry in
    let all = looked_then old _ _ c.in_ok-refusal.field-0 _ _ (λ s rows made. IsExpiry (expiring_on x.day rows) made.edits.items made.expired) c.in_ok-refusal.ensures c.in_ok-expiry.ensures in
    looked old _ _ _ _ _ all (λ none found. ruled_advance old.state old.rows c.args.caller.now x expiry.edits expiry.expired (c.requires.sound none) (c.requires.rows none) (sym found.0 ∙ c.in_default.is) found.1)

pub returns-in_err-refusal : goal.returns-in_err-refusal
returns-in_err-refusal g c = looked_failed _ _ _ _ _ _ c.from_residual.ensures.1 c.in_err-refusal.ensures

pub returns-in_err-expiry : goal.returns-in_err-expiry
returns-in_err-expiry g c = looked_past _ _ _ _ _ _ _ _ _ c.from_residual-in_err-expiry.ensures.1 c.in_ok-refusal.ensures c.in_err-expiry.ensures
