use Rattle.std.proofs.Common.{◌≡◌, ◌∙◌, Err, All, IsOkUnless, sym, subst, rules}
use Rattle.sqlite.specs.Held.{state}
use Rattle.goo_store_plans.specs.AtHand.{IsAtHand}
use Rattle.goo_store_plans.specs.EditsGathered.{CanBeTaken}
use Rattle.goo_store_values.specs.declared.statement_fault.StatementFault.TheVariants.{Memory}
use Rattle.goo_store_plans.proofs.Refusing.{blames_err, blames_made, blames_none, blames_so}
use Rattle.goo_store_plans.proofs.Taking.{all_at_hand, edits_taken}
use Rattle.goo_store_plans.proofs.edit_changes.changes_of_edits.Goals as goal

pub returns-in_err-lots-clause-blames : goal.returns-in_err-lots-clause-blames
returns-in_err-lots-clause-blames g c =
    let memory : IsOkUnless c.from_residual.result Memory = search rules in
    blames_none (state g.S.Store c.args.conn.now) c.from_residual.result _ (λ t stands kept needs. memory)

pub returns-in_err-found-clause-blames : goal.returns-in_err-found-clause-blames
returns-in_err-found-clause-blames g c =
    let s0 = state g.S.Store c.args.conn.now in
    let s1 = state g.S.Store c.numbers_of.new.conn in
    let lots = c.in_ok-lots.lots in
    let same : c.from_residual-in_err-found.result ≡ Err c.in_err-found.field-0.0 = search rules in
    blames_err s0 s1 c.in_err-found.field-0.0 c.from_residual-in_err-found.result _ same
    (blames_so s0 s1 (Err c.in_err-found.field-0.0) _ _ c.in_err-found.ensures.blames
    (λ t stands kept can. subst (All (IsAtHand c.args.added.now t)) (sym c.deref.ensures.value) (all_at_hand lots.items c.args.edits.now c.args.added.now t c.in_ok-lots.ensures.only can.pieces)))

pub returns-clause-blames : goal.returns-clause-blames
returns-clause-blames g c =
    let s0 = state g.S.Store c.args.conn.now in
    let s1 = state g.S.Store c.numbers_of.new.conn in
    let lots = c.in_ok-lots.lots in
    let found = c.in_ok-found.found in
    blames_made s0 s1 found _ c.in_ok-found.ensures.looks _ c.in_ok-found.ensures.blames c.edit_changes.result _
    (λ t stands kept can are. c.edit_changes.ensures.memory
    (subst (λ xs. All (CanBeTaken xs) c.args.edits.now) (sym c.deref-2.ensures.value)
    (edits_taken found.items c.args.added.now t lots.items c.args.edits.now (c.in_ok-found.ensures.each ∙ c.deref.ensures.value) c.in_ok-lots.ensures.noted are can)))
