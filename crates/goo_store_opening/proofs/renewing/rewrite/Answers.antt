use Rattle.std.proofs.Common.{rules, ◌≡◌, IsErr, sym, subst}
use Rattle.sqlite.specs.Held.{state as view}
use Rattle.goo_store_plans.specs.JoiningChanges.{JoinsPieces}
use Rattle.goo_store_opening.proofs.FirstTables.{not_begun, rewritten, not_rewritten, as_told}
use Rattle.goo_store_opening.proofs.renewing.rewrite.Goals as goal

pub returns-in_err-changes : goal.returns-in_err-changes
returns-in_err-changes g c =
    let old = view g.S.Store c.args.conn.now in
    let told : IsErr c.from_residual.result = search rules in
    as_told old old c.args.pieces.now c.in_err-changes.field-0.0 c.from_residual.result told (not_begun old c.args.pieces.now c.in_err-changes.field-0.0 c.requires.outside)

pub returns-in_err-commit_migration : goal.returns-in_err-commit_migration
returns-in_err-commit_migration g c =
    let old = view g.S.Store c.args.conn.now in
    let new = view g.S.Store c.commit_migration.new.conn in
    let it = c.in_err-commit_migration.ensures in
    let same : c.deref.result.now ≡ c.in_ok-changes.changes.items = search rules in
    let told : IsErr c.from_residual-in_err-commit_migration.result = search rules in
    as_told old new c.args.pieces.now c.in_err-commit_migration.field-0.0 c.from_residual-in_err-commit_migration.result told
    (not_rewritten old new c.args.pieces.now c.deref.result.now (λ t given first. subst (JoinsPieces t) (sym same) (c.in_ok-changes.ensures.joins t given first.1.pieces.rise)) it.clean it.outside it.crash c.in_err-commit_migration.field-0.0 it.was_open it.kept)

pub returns : goal.returns
returns g c =
    let old = view g.S.Store c.args.conn.now in
    let new = view g.S.Store c.commit_migration.new.conn in
    let it = c.in_ok-commit_migration.ensures in
    let same : c.deref.result.now ≡ c.in_ok-changes.changes.items = search rules in
    rewritten old new c.args.pieces.now c.deref.result.now (λ t given first. subst (JoinsPieces t) (sym same) (c.in_ok-changes.ensures.joins t given first.1.pieces.rise)) it.clean it.outside it.crash _ it.works it.done
