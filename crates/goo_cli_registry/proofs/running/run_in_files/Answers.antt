use Rattle.std.proofs.Common.{◌≡◌, refl, subst, sym}
use Rattle.std.proofs.KnownBytes.{Keeps-refl}
use Rattle.sqlite.specs.Files.{file_state}
use Rattle.sqlite_trees.specs.View.{doubt}
use Rattle.goo_store_opening.specs.Versions.{state_held}
use Rattle.goo_store_judge.specs.Moments.{moment}
use Rattle.goo_cli_registry.proofs.DurableLemmas.{begun, opened, runs_from}
use Rattle.goo_cli_registry.proofs.Files.{not_refused}
use Rattle.goo_cli_registry.proofs.running.run_in_files.Goals as goal

-- files that returned what was written to the end did so when the registry was opened
pub returns-in-Ok-clause-runs : goal.returns-in-Ok-clause-runs
returns-in-Ok-clause-runs g c = λ clean db holds.
    let low = c.close_registry.ensures.clean clean in
    let before = subst (λ shelf. doubt (file_state shelf.conn).is_clean ≡ 0) c.new.ensures (c.answer_by-ending.ensures.corruptions_stay low) in
    let none = c.in-Ok.ensures.ready.works before in
    let same = subst (λ shelf. (moment (file_state shelf.conn) shelf.refused).state ≡ state_held db) (sym c.new.ensures) (c.in-Ok.ensures.state db holds none) in
    runs_from c.close_registry.result c.answer_by-ending.result.0 (moment (file_state c.new.result.shelf.conn) c.new.result.shelf.refused) (moment (file_state c.answer_by-ending.result.1.conn) c.answer_by-ending.result.1.refused) (state_held db) _ _ _ _ same
    (c.answer_by-ending.ensures.runs low) (subst (λ shelf. (moment (file_state shelf.conn) shelf.refused).defects ≡ 0) (sym c.new.ensures) none)
    c.close_registry.ensures.whole c.close_registry.ensures.sure c.close_registry.ensures.found

pub returns-in-Ok-clause-begins : goal.returns-in-Ok-clause-begins
returns-in-Ok-clause-begins g c = λ clean db holds.
    let low = c.close_registry.ensures.clean clean in
    let before = subst (λ shelf. doubt (file_state shelf.conn).is_clean ≡ 0) c.new.ensures (c.answer_by-ending.ensures.corruptions_stay low) in
    let none = c.in-Ok.ensures.ready.works before in
    let same = c.in-Ok.ensures.state db holds none in
    opened c.close_registry.result _ (begun db _ same (c.in-Ok.ensures.sound none) (λ s t either. c.in-Ok.ensures.again db holds s t either none))

pub returns-in-Ok-clause-words : goal.returns-in-Ok-clause-words
returns-in-Ok-clause-words g c = opened c.close_registry.result _ c.answer_by-ending.ensures.words

pub returns-in-Ok-clause-refused : goal.returns-in-Ok-clause-refused
returns-in-Ok-clause-refused g c = not_refused c.close_registry.result _ c.close_registry.ensures.opened

pub returns-in-Err-clause-refused : goal.returns-in-Err-clause-refused
returns-in-Err-clause-refused g c = record { unopened = record { word = c.in-Err.ensures.word; silent = Keeps-refl _ }; unread = Keeps-refl _ }

pub returns-in-Ok-clause-turned_away : goal.returns-in-Ok-clause-turned_away
returns-in-Ok-clause-turned_away g c clean = not_refused c.close_registry.result _ c.close_registry.ensures.opened

pub returns-in-Err-clause-turned_away : goal.returns-in-Err-clause-turned_away
returns-in-Err-clause-turned_away g c clean = record { failure = c.in-Err.failure; tells = refl; why = c.in-Err.ensures.why clean; unharmed = c.in-Err.ensures.unharmed clean }
