use Rattle.std.proofs.Common.{◌∙◌, ap, inl, sym, subst}
use Rattle.sqlite.specs.Effect.{Database}
use Rattle.sqlite.specs.Files.{file_state}
use Rattle.goo_store_opening.specs.Versions.{state_held}
use Rattle.goo_store_judge.specs.Holding.{sure}
use Rattle.goo_store_judge.specs.Moments.{OpensAsEither}
use Rattle.sqlite.specs.Tree.{Trees}
use Rattle.goo_cli_registry.proofs.Files.{clean_before, fault_failure, fault_in, leaves_registry, leaves_same, of_files, of_opening, outside_failure, why_unread}
use Rattle.goo_cli_registry.proofs.opening.open_registry.Goals as goal

pub open_observed-requires-clause-ordered : goal.open_observed-requires-clause-ordered
open_observed-requires-clause-ordered g c = λ none. c.in-Ok.ensures.ordered (sure (file_state c.in-Ok.conn) none).0

pub returns-in-Ok-open_observed-clause-state : goal.returns-in-Ok-open_observed-clause-state
returns-in-Ok-open_observed-clause-state g c = λ db holds none.
    let shelf = c.in-Ok-open_observed.shelf in
    let clean = c.in-Ok-open_observed.ensures.opened.clean (sure (file_state shelf.conn) none).0 in
    c.in-Ok-open_observed.ensures.opened.held none
    ∙ ap state_held (ap (λ (d : Database). d.trees) (c.in-Ok.ensures.opened clean).0.clean ∙ (c.in-Ok.ensures.found clean).holds db holds)

pub returns-in-Err-open_observed-clause-unharmed : goal.returns-in-Err-open_observed-clause-unharmed
returns-in-Err-open_observed-clause-unharmed g c = λ clean.
    let late = clean_before _ _ c.into_store.ensures.quiet.clean clean in
    let before = c.in-Err-open_observed.ensures.not_opened.clean_before late in
    leaves_registry c.args.files g.met.D.Disk.seen_may_stay c.in-Ok.conn (c.in-Ok.ensures.opened before).0.is_open (c.in-Ok.ensures.opened before).0.clean (c.in-Ok.ensures.found before) c.into_store.result
    (λ db may. c.in-Err-open_observed.ensures.not_opened.left late db (c.into_store.ensures.quiet.outcomes db may))

pub returns-in-Err-clause-unharmed : goal.returns-in-Err-clause-unharmed
returns-in-Err-clause-unharmed g c = λ clean. leaves_same c.args.files c.in-Err.left (c.in-Err.ensures.unharmed clean)

pub returns-in-Ok-open_observed-clause-again : goal.returns-in-Ok-open_observed-clause-again
returns-in-Ok-open_observed-clause-again g c = λ db holds s t either none.
    let shelf = c.in-Ok-open_observed.shelf in
    let clean = c.in-Ok-open_observed.ensures.opened.clean (sure (file_state shelf.conn) none).0 in
    let opened = (c.in-Ok.ensures.opened clean).0 in
    let same = ap (λ (d : Database). d.trees) opened.clean ∙ (c.in-Ok.ensures.found clean).holds db holds in
    c.in-Ok-open_observed.ensures.opened.again opened.is_open s t (subst (λ (x : Trees). OpensAsEither x s t) (sym same) either) none

pub returns-in-Err-open_observed-clause-never_foreign : goal.returns-in-Err-open_observed-clause-never_foreign
returns-in-Err-open_observed-clause-never_foreign g c = λ clean db holds s t either.
    let late = clean_before _ _ c.into_store.ensures.quiet.clean clean in
    let before = c.in-Err-open_observed.ensures.not_opened.clean_before late in
    let opened = (c.in-Ok.ensures.opened before).0 in
    let same = ap (λ (d : Database). d.trees) opened.clean ∙ (c.in-Ok.ensures.found before).holds db holds in
    outside_failure c.in-Err-open_observed.fault c.failure_of.result c.failure_of.ensures
    (c.in-Err-open_observed.ensures.not_opened.never_foreign opened.is_open c.in-Ok.ensures.fresh.unlimited s t (subst (λ (x : Trees). OpensAsEither x s t) (sym same) either) late)

pub returns-in-Err-clause-never_foreign : goal.returns-in-Err-clause-never_foreign
returns-in-Err-clause-never_foreign g c = λ clean db holds s t either. fault_failure c.in-Err.fault c.from.result c.from.ensures

pub returns-in-Err-open_observed-clause-word : goal.returns-in-Err-open_observed-clause-word
returns-in-Err-open_observed-clause-word g c = of_opening c.in-Err-open_observed.fault c.failure_of.result c.failure_of.ensures

pub returns-in-Err-clause-word : goal.returns-in-Err-clause-word
returns-in-Err-clause-word g c = of_files c.in-Err.fault c.from.result c.from.ensures

-- the word for what the files hold is handed on
pub returns-in-Err-open_observed-clause-why : goal.returns-in-Err-open_observed-clause-why
returns-in-Err-open_observed-clause-why g c = λ clean.
    let it = c.in-Err-open_observed in
    let late = clean_before _ _ c.into_store.ensures.quiet.clean clean in
    let before = it.ensures.not_opened.clean_before late in
    inl (
      it.fault,
      c.failure_of.ensures,
      record {
        before = c.in-Ok.conn;
        after = it.conn;
        over = record { finds = c.in-Ok.ensures.found before; opened = c.in-Ok.ensures.opened before; unlimited = c.in-Ok.ensures.fresh.unlimited };
        clean = late;
        lacking = λ lacks. ap (λ r. fault_in it.fault r) (it.ensures.lacking lacks);
        why = it.ensures.not_opened;
      },
    )

pub returns-in-Err-clause-why : goal.returns-in-Err-clause-why
returns-in-Err-clause-why g c = λ clean. why_unread c.args.files c.in-Err.left c.in-Err.fault c.from.result c.from.ensures (λ store. c.in-Err.ensures.store store clean)
