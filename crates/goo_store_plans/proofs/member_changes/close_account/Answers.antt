use Rattle.std.proofs.Common.{◌∷◌, [], ap, sym, subst, ◌∙◌}
use Rattle.goo_types.specs.declared.command.Command.TheVariants as command
use Rattle.goo_store_changes.specs.declared.table_change.TableChange.TheVariants as change
use Rattle.goo_store_plans.specs.Carried.{Does}
use Rattle.goo_store_plans.proofs.Carrying.{closes}
use Rattle.goo_store_plans.proofs.member_changes.close_account.Goals as goal

pub returns-clause-does : goal.returns-clause-does
returns-clause-does c t =
    subst (Does t (command.CloseAccount c.args.closed.now)) (sym (c.in_ok-vec.ensures.items ∙ ap (λ n. change.CloseAccount n ∷ []) c.get-account.ensures.value))
    (closes t c.args.closed.now)
