use Rattle.std.proofs.Common.{◌<◌, ◌+◌, All, length, take, take_all, sym, subst, arith}
use Rattle.goo_store_plans.specs.EditsGathered.{HasRowToBe}
use Rattle.std.specs.List.{AllZip}
use Rattle.std.proofs.lemmas.List.Elements.{All-push}
use Rattle.goo_tables_accounts.specs.Changes.{PieceFits}
use Rattle.goo_store_plans.specs.EditChanges.{IsRowOf}
use Rattle.goo_store_plans.proofs.RowsGathered.{row_is, rows_of_zip, zip_more}
use Rattle.goo_store_plans.proofs.edit_changes.piece_rows.Goals as goal

pub loop-piece-preserved : goal.loop-piece-preserved
loop-piece-preserved c =
    let pieces = c.args.pieces.now in
    let i = c.loop-piece.piece-index in
    let low : i < length pieces = omega (arith, c.loop-piece-test.true) in
    record {
      rows = λ lots are.
          subst (AllZip (λ p x. IsRowOf lots x p) (take (i + 1) pieces)) (sym c.in_ok-push.ensures.items)
          (zip_more (λ p x. IsRowOf lots x p) pieces c.loop-piece.rows.items i c.piece-item.result c.in_ok-row.row low c.piece-item.is (c.loop-piece.invariant.rows lots are)
          (row_is lots c.in_ok-row.row c.piece-item.result c.in_ok-at.at.number c.in_ok-row.ensures.lot c.in_ok-row.ensures.states c.in_ok-row.ensures.reads (c.in_ok-at.ensures.numbers lots are)));
      fits = subst (All PieceFits) (sym c.in_ok-push.ensures.items) (All-push PieceFits c.loop-piece.rows.items c.in_ok-row.row c.loop-piece.invariant.fits c.in_ok-row.ensures.fits);
    }

pub returns-clause-rows : goal.returns-clause-rows
returns-clause-rows c lots are =
    rows_of_zip lots c.loop-piece.rows.items c.args.pieces.now
    (subst (λ ps. AllZip (λ p x. IsRowOf lots x p) ps c.loop-piece.rows.items) (take_all c.loop-piece.piece-index c.args.pieces.now c.loop-piece-test.false) (c.loop-piece.invariant.rows lots are))

pub returns-in_err-at-clause-memory : goal.returns-in_err-at-clause-memory
returns-in_err-at-clause-memory c all =
    let low : c.loop-piece.piece-index < length c.args.pieces.now = omega (arith, c.loop-piece-test.true) in
    let can : HasRowToBe c.args.found.now c.piece-item.result = subst (HasRowToBe c.args.found.now) (sym c.piece-item.is) (all c.loop-piece.piece-index c.piece-item.result low) in
    absurd (let ok = c.in_err-at.ensures.finds can.1 in cc)

pub returns-in_err-row-clause-memory : goal.returns-in_err-row-clause-memory
returns-in_err-row-clause-memory c all =
    let low : c.loop-piece.piece-index < length c.args.pieces.now = omega (arith, c.loop-piece-test.true) in
    let can : HasRowToBe c.args.found.now c.piece-item.result = subst (HasRowToBe c.args.found.now) (sym c.piece-item.is) (all c.loop-piece.piece-index c.piece-item.result low) in
    absurd (let ok = c.in_err-row.ensures.accepts can.0 in cc)
