use Rattle.std.proofs.Common.{sym, subst}
use Rattle.std.specs.List.{Contains}
use Rattle.std.proofs.lemmas.List.Elements.{Contains-push, Contains-push_cases}
use Rattle.goo_store_plans.proofs.edit_changes.note_lot.Goals as goal

pub returns-clause-noted : goal.returns-clause-noted
returns-clause-noted c = subst (λ xs. Contains xs c.args.lot.now) (sym c.in_ok-extend_from_slice.ensures.items) (Contains-push _ _)

pub returns-clause-only : goal.returns-clause-only
returns-clause-only c x has = Contains-push_cases c.args.lots.now.items c.args.lot.now x (subst (λ xs. Contains xs x) c.in_ok-extend_from_slice.ensures.items has)
