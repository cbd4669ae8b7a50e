use Rattle.std.proofs.Common.{◌≡◌, ◌∙◌, [], ◌∷◌, ap, sym}
use Rattle.std.specs.FinMap.{entries}
use Rattle.std.specs.List.{list_any}
use Rattle.goo_types.specs.declared.refusal.Refusal.TheVariants.{AccountNotEmpty}
use Rattle.goo_spec.specs.Checks.{when}
use Rattle.goo_spec.specs.CloseAccount.{close_account_refusal, close_account_reply}
use Rattle.goo_spec.specs.Lots.{is_held_by}
use Rattle.goo_core_judges.specs.CloseAccount.{entry_checks}
use Rattle.goo_core_judges.specs.Verdict.{verdict_of}
use Rattle.goo_core_shelf.proofs.Looking.{looked, looked_then}
use Rattle.goo_core_moves.proofs.Rulings.{failed_early}
use Rattle.goo_core_judges.proofs.Closing.{holding, closed_late}
use Rattle.goo_core_moves.proofs.Stopping.{looked_failed, looked_past}
use Rattle.goo_core_judges.proofs.close_account.judge_close_account.Goals as goal

pub returns-in-Some : goal.returns-in-Some
unfolding close_account_refusal
returns-in-Some g c =
    let s = (g.S.Shelf.seen c.args.shelf.now).state in
    let x = c.args.closing.now in
    looked _ _ _ _ _ _ c.in_ok-refusal.ensures (λ none is.
    sym (ap (λ o. verdict_of o (close_account_reply s x)) (failed_early (entry_checks s c.args.caller.now x) (when (list_any (λ e. is_held_by x.account e.1.1) (entries s.at)) AccountNotEmpty ∷ []) c.in-Some.refusal (sym is ∙ c.in-Some.is))))

pub returns-then-holds : goal.returns-then-holds
unfolding close_account_reply
returns-then-holds g c =
    let old = g.S.Shelf.seen c.args.shelf.now in
    let x = c.args.closing.now in
    let all = looked_then old _ _ c.in_ok-refusal.field-0 _ _ (λ s rows holds. holds ≡ list_any (λ p. is_held_by x.account p.place) rows) c.in_ok-refusal.ensures c.in_ok-holds.ensures in
    looked old _ _ _ _ _ all (λ none found.
    let some = found.1 ∙ holding old.state old.rows x.account (c.requires none) in
    sym (ap (λ o. verdict_of o (close_account_reply old.state x)) (closed_late old.state c.args.caller.now x c.in_ok-holds.holds (sym found.0 ∙ c.in_default.is) some ∙ ap (λ b. when b AccountNotEmpty) c.if-holds.true)))

pub returns : goal.returns
unfolding close_account_reply
returns g c =
    let old = g.S.Shelf.seen c.args.shelf.now in
    let x = c.args.closing.now in
    let all = looked_then old _ _ c.in_ok-refusal.field-0 _ _ (λ s rows holds. holds ≡ list_any (λ p. is_held_by x.account p.place) rows) c.in_ok-refusal.ensures c.in_ok-holds.ensures in
    looked old _ _ _ _ _ all (λ none found.
    let some = found.1 ∙ holding old.state old.rows x.account (c.requires none) in
    sym (ap (λ o. verdict_of o (close_account_reply old.state x)) (closed_late old.state c.args.caller.now x c.in_ok-holds.holds (sym found.0 ∙ c.in_default.is) some ∙ ap (λ b. when b AccountNotEmpty) c.if-holds.false)))

pub returns-in_err-refusal : goal.returns-in_err-refusal
returns-in_err-refusal g c = looked_failed _ _ _ _ _ _ c.from_residual.ensures.1 c.in_err-refusal.ensures

pub returns-in_err-holds : goal.returns-in_err-holds
returns-in_err-holds g c = looked_past _ _ _ _ _ _ _ _ _ c.from_residual-in_err-holds.ensures.1 c.in_ok-refusal.ensures c.in_err-holds.ensures
