use Rattle.std.proofs.Common.{◌≡◌, None, inl, refl, subst, sym}
use Rattle.std.specs.FinMap.{get}
use Rattle.sqlite.specs.Files.{file_state}
use Rattle.sqlite_trees.specs.View.{doubt}
use Rattle.goo_store_opening.specs.Versions.{state_held}
use Rattle.goo_store_judge.specs.Moments.{moment}
use Rattle.goo_files.specs.Texts.{IsStatement}
use Rattle.sqlite_wal.specs.Reads.{AreClean}
use Rattle.goo_cli_registry.specs.Closings.{HoldState, IfWhole}
use Rattle.goo_cli_registry.specs.Finds.{FindsRight, IfParts}
use Rattle.std.proofs.KnownBytes.{Keeps-refl}
use Rattle.goo_cli_registry.proofs.DurableLemmas.{opened}
use Rattle.goo_cli_files.proofs.Begun.{began_begun, held_as, not_refused, wrote_begun}
use Rattle.goo_cli_files.proofs.texts.statement_in_files.Goals as goal

pub returns-in-Ok-clause-shown : goal.returns-in-Ok-clause-shown
returns-in-Ok-clause-shown g c = λ clean db holds status.
    let low = subst (λ shelf. doubt (file_state shelf.conn).is_clean ≡ 0) c.into_shelf.ensures (c.close_registry.ensures.clean clean) in
    let before = subst (λ shelf. doubt (file_state shelf.conn).is_clean ≡ 0) c.new-registry.ensures (c.show_statement-ending.ensures.corruptions_stay low) in
    wrote_begun (λ s. IsStatement s c.args.account) _ _ _ _
    (subst (λ shelf. (moment (file_state shelf.conn) shelf.refused).state ≡ state_held db) (sym c.new-registry.ensures) (c.in-Ok.ensures.state db holds (c.in-Ok.ensures.ready.works before)))
    (c.show_statement-ending.ensures.shown low status)

pub returns-in-Ok-clause-unknown : goal.returns-in-Ok-clause-unknown
returns-in-Ok-clause-unknown g c = λ clean db holds status.
    let low = subst (λ shelf. doubt (file_state shelf.conn).is_clean ≡ 0) c.into_shelf.ensures (c.close_registry.ensures.clean clean) in
    let before = subst (λ shelf. doubt (file_state shelf.conn).is_clean ≡ 0) c.new-registry.ensures (c.show_statement-ending.ensures.corruptions_stay low) in
    subst (λ s. get s.accounts c.args.account ≡ None)
    (subst (λ shelf. (moment (file_state shelf.conn) shelf.refused).state ≡ state_held db) (sym c.new-registry.ensures) (c.in-Ok.ensures.state db holds (c.in-Ok.ensures.ready.works before)))
    (c.show_statement-ending.ensures.unknown low status)

pub returns-in-Ok-clause-silent : goal.returns-in-Ok-clause-silent
returns-in-Ok-clause-silent g c = λ clean status.
    c.show_statement-ending.ensures.silent (subst (λ shelf. doubt (file_state shelf.conn).is_clean ≡ 0) c.into_shelf.ensures (c.close_registry.ensures.clean clean)) status

pub returns-in-Ok-clause-kept : goal.returns-in-Ok-clause-kept
returns-in-Ok-clause-kept g c = λ clean db holds.
    let low = subst (λ shelf. doubt (file_state shelf.conn).is_clean ≡ 0) c.into_shelf.ensures (c.close_registry.ensures.clean clean) in
    let before = subst (λ shelf. doubt (file_state shelf.conn).is_clean ≡ 0) c.new-registry.ensures (c.show_statement-ending.ensures.corruptions_stay low) in
    let none = c.in-Ok.ensures.ready.works before in
    held_as c.close_registry.result (moment (file_state c.show_statement-ending.new.registry.shelf.conn) c.show_statement-ending.new.registry.shelf.refused) _ _ c.show_statement-ending.ensures.rests
    (c.show_statement-ending.ensures.safe low (subst (λ shelf. (moment (file_state shelf.conn) shelf.refused).defects ≡ 0) (sym c.new-registry.ensures) none))
    (subst (λ shelf. (moment (file_state shelf.conn) shelf.refused).state ≡ state_held db) (sym c.new-registry.ensures) (c.in-Ok.ensures.state db holds none))
    (subst (λ shelf. IfWhole c.close_registry.result (λ files. HoldState g.D.Disk files (moment (file_state shelf.conn) shelf.refused).state)) c.into_shelf.ensures c.close_registry.ensures.whole)
    (subst (λ shelf. IfWhole c.close_registry.result (λ files. AreClean g.D.Disk files.log files.db → (moment (file_state shelf.conn) shelf.refused).defects ≡ 0)) c.into_shelf.ensures c.close_registry.ensures.sure)
    (subst (λ shelf. IfParts c.close_registry.result (FindsRight (moment (file_state shelf.conn) shelf.refused).leaves)) c.into_shelf.ensures c.close_registry.ensures.found)

pub returns-in-Ok-clause-turned_away : goal.returns-in-Ok-clause-turned_away
returns-in-Ok-clause-turned_away g c clean = not_refused c.close_registry.result _ c.close_registry.ensures.opened

pub returns-in-Ok-clause-words : goal.returns-in-Ok-clause-words
returns-in-Ok-clause-words g c = opened c.close_registry.result _ c.show_statement-ending.ensures.words

pub returns-in-Ok-clause-refused : goal.returns-in-Ok-clause-refused
returns-in-Ok-clause-refused g c = not_refused c.close_registry.result _ c.close_registry.ensures.opened

pub returns-in-Err-clause-refused : goal.returns-in-Err-clause-refused
returns-in-Err-clause-refused g c = record { word = c.in-Err.ensures.word; silent = Keeps-refl _ }

pub returns-in-Err-clause-turned_away : goal.returns-in-Err-clause-turned_away
returns-in-Err-clause-turned_away g c clean = record { failure = c.in-Err.failure; tells = refl; why = c.in-Err.ensures.why clean; unharmed = c.in-Err.ensures.unharmed clean }

pub returns-in-Ok-clause-begun : goal.returns-in-Ok-clause-begun
returns-in-Ok-clause-begun g c = λ clean db holds status.
    let low = subst (λ shelf. doubt (file_state shelf.conn).is_clean ≡ 0) c.into_shelf.ensures (c.close_registry.ensures.clean clean) in
    let before = subst (λ shelf. doubt (file_state shelf.conn).is_clean ≡ 0) c.new-registry.ensures (c.show_statement-ending.ensures.corruptions_stay low) in
    let none = c.in-Ok.ensures.ready.works before in
    began_begun (λ s. IsStatement s c.args.account) _ _ _ _
    (subst (λ shelf. (moment (file_state shelf.conn) shelf.refused).state ≡ state_held db) (sym c.new-registry.ensures) (c.in-Ok.ensures.state db holds none))
    (c.show_statement-ending.ensures.begun low (subst (λ shelf. (moment (file_state shelf.conn) shelf.refused).defects ≡ 0) (sym c.new-registry.ensures) none) status)

pub returns-in-Err-clause-begun : goal.returns-in-Err-clause-begun
returns-in-Err-clause-begun g c = λ clean db holds status. inl (Keeps-refl _)
