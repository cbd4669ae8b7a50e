use Rattle.std.proofs.Common.{◌∷◌, [], ◌++◌, ap, sym, subst, ◌∙◌}
use Rattle.std.specs.Prelude.{All}
use Rattle.std.proofs.lemmas.List.Elements.{All-append}
use Rattle.goo_spec.specs.Step.{changed}
use Rattle.goo_spec_tables.specs.States.{state_of}
use Rattle.goo_store_plans.specs.Acted.{IsActed}
use Rattle.goo_store_changes.specs.Changes.{made_all, ChangeFits, AreFor, AreFree, HaveRoom}
use Rattle.goo_store_plans.specs.Planned.{IsPlanned}
use Rattle.goo_store_plans.specs.Room.{HaveRowids}
use Rattle.goo_store_changes.specs.declared.table_change.TableChange.TheVariants.{AddReceipt}
use Rattle.goo_store_plans.proofs.Carrying.{all_one}
use Rattle.goo_store_plans.proofs.Joining.{joined}
use Rattle.goo_store_plans.proofs.plan_changes.joined.Goals as goal

pub returns-clause-planned : goal.returns-clause-planned
returns-clause-planned c t kept order fits gathered same carries edits =
    let plan = c.args.plan.now in
    subst (λ xs. IsPlanned t xs plan) (sym (c.in_ok-append.ensures.items ∙ ap (λ xs. c.args.act.items ++ xs) c.in_ok-push.ensures.items))
    (joined t kept order plan fits c.command.ensures.limits c.args.act.items c.args.edits.items (subst (AreFor t) same carries.for) (subst (AreFree t) same carries.free) (subst (λ xs. HaveRowids t → HaveRoom t xs) same carries.room)
    (subst (λ xs. IsActed t (made_all t xs) (changed (state_of t) plan.request.command)) same carries.acted) edits c.in_ok-receipt.receipt c.in_ok-receipt.ensures.receipt)

pub returns-clause-fits : goal.returns-clause-fits
returns-clause-fits c =
    let receipt = AddReceipt c.in_ok-receipt.receipt ∷ [] in
    subst (All ChangeFits) (sym (c.in_ok-append.ensures.items ∙ ap (λ xs. c.args.act.items ++ xs) c.in_ok-push.ensures.items))
    (All-append ChangeFits c.args.act.items (c.args.edits.items ++ receipt) c.requires.act (All-append ChangeFits c.args.edits.items receipt c.requires.edits (all_one ChangeFits (AddReceipt c.in_ok-receipt.receipt) c.in_ok-receipt.ensures.fits)))
