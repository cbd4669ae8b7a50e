use Rattle.std.proofs.Common.{refl, sym, subst}
use Rattle.std.specs.Prelude.{string_bytes}
use Rattle.goo_types.specs.declared.command.Command.TheVariants as command
use Rattle.goo_tables_accounts.specs.Changes.{at_day}
use Rattle.goo_store_changes.specs.declared.table_change.TableChange.TheVariants as change
use Rattle.goo_store_plans.specs.Carried.{Does}
use Rattle.goo_store_plans.proofs.Carrying.{advances}
use Rattle.goo_store_plans.proofs.SmallRows.{small_meta}
use Rattle.goo_store_plans.proofs.act_changes.advance.Goals as goal

pub returns-clause-does : goal.returns-clause-does
returns-clause-does c t =
    subst (Does t (command.Advance c.args.accepted.now)) (sym c.in_ok-vec.ensures.items)
    (advances t c.args.accepted.now (change.SetToday c.in_ok-today.today) (string_bytes c.in_ok-today.today) refl (λ u. tt) tt
    (small_meta (at_day t (string_bytes c.in_ok-today.today)).meta c.in_ok-today.ensures.reads) c.in_ok-today.ensures.states c.in_ok-today.ensures.reads)
