use Rattle.std.proofs.Common.{◌≡◌, subst}
use Rattle.goo_cli_registry.proofs.running.answer_by.Goals as goal

pub returns-clause-runs : goal.returns-clause-runs
returns-clause-runs g c honest =
    rw c.into_shelf.ensures (c.answer_input-ending.ensures.runs (subst (λ shelf. (g.S.Shelf.seen shelf).corruptions ≡ 0) c.into_shelf.ensures honest))
