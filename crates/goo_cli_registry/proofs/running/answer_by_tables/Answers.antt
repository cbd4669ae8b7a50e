use Rattle.std.proofs.Common.{◌≡◌, inl, inr, subst, sym}
use Rattle.std.proofs.KnownBytes.{Keeps-refl}
use Rattle.sqlite.specs.Held.{state as view}
use Rattle.sqlite_trees.specs.View.{doubt}
use Rattle.goo_store_judge.specs.Moments.{moment}
use Rattle.goo_spec.specs.Created.{created}
use Rattle.goo_cli_registry.proofs.DurableLemmas.{runs_begun}
use Rattle.goo_cli_registry.proofs.Files.{lines_of_fault, of_opening, unmade_failure}
use Rattle.goo_cli_registry.proofs.running.answer_by_tables.Goals as goal

-- a store that returned what was written to the end did so when the registry was opened
pub returns-in-Ok-clause-runs : goal.returns-in-Ok-clause-runs
returns-in-Ok-clause-runs g c clean =
    let low = subst (λ conn. doubt (view g.S.Store conn).is_clean ≡ 0) c.into_connection.ensures.conn clean in
    let before = subst (λ shelf. doubt (view g.S.Store shelf.conn).is_clean ≡ 0) c.new.ensures (c.answer_by-ending.ensures.corruptions_stay low) in
    let same = subst (λ shelf. (moment (view g.S.Store shelf.conn) shelf.refused).state ≡ created c.args.opening.code c.args.opening.today c.args.opening.next_serial) (sym c.new.ensures) (c.in-Ok.ensures.state (c.in-Ok.ensures.ready.works before)) in
    inl (runs_begun c.answer_by-ending.result.0 _ _ _ _ _ _ _ _ same (c.answer_by-ending.ensures.runs low))

pub returns-in-Err-clause-runs : goal.returns-in-Err-clause-runs
returns-in-Err-clause-runs g c clean = inr (record {
  unopened = record { word = of_opening c.in-Err.fault c.failure_of.result c.failure_of.ensures; silent = Keeps-refl _ };
  unread = Keeps-refl _;
})

pub returns-in-Err-clause-words : goal.returns-in-Err-clause-words
returns-in-Err-clause-words g c = lines_of_fault c.failure_of.result (unmade_failure c.in-Err.fault c.failure_of.result c.failure_of.ensures c.in-Err.ensures.words)
