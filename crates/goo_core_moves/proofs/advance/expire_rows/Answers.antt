use Rattle.std.proofs.Common.{rules, ◌≡◌, ◌+◌, ◌≤◌, List, [], Option}
use Rattle.goo_types.specs.declared.piece.Piece.{Piece}
use Rattle.goo_spec.specs.State.{State}
use Rattle.goo_spec_runs.specs.NextRun.{from_of}
use Rattle.goo_core_shelf.specs.Rows.{expiring_on, next_expiring_row}
use Rattle.goo_core_shelf.proofs.Looking.{still, looked_both, looked_then}
use Rattle.goo_core_moves.proofs.Expiring.{IsExpiring, rising_on, expiring_start, expiring_more, expiring_end}
use Rattle.goo_core_moves.proofs.Stopping.{looked_failed, looked_full}
use Rattle.goo_core_moves.proofs.advance.expire_rows.Goals as goal

pub loop-edits-init : goal.loop-edits-init
loop-edits-init g c =
    let m = g.S.Shelf.seen c.args.shelf.now in
    let all = expiring_on c.args.day m.rows in
    let empty : c.new-edits.result.items ≡ [] = search rules in
    still m 0 (IsExpiring all 0 c.new-edits.result.items) c.requires.ready (λ none. rw empty (expiring_start all (rising_on c.args.day m.rows (c.requires.rising none))))

pub returns-in_default : goal.returns-in_default
returns-in_default g c =
    let m = g.S.Shelf.seen c.args.shelf.now in
    let all = expiring_on c.args.day m.rows in
    looked_both m _ _ c.loop-edits.expired c.in_ok-row.field-0 _ (IsExpiring all (from_of c.loop-edits.after) c.loop-edits.edits.items)
    (λ (s : State) (rs : List Piece) (found : Option Piece). found ≡ next_expiring_row c.args.day c.loop-edits.after rs) _ c.loop-edits.invariant c.in_ok-row.ensures.looks
    (λ none is found. expiring_end all (from_of c.loop-edits.after) c.loop-edits.edits.items c.loop-edits.expired is (rw c.in_default.is at found))

pub loop-edits-preserved : goal.loop-edits-preserved
loop-edits-preserved g c =
    let m = g.S.Shelf.seen c.args.shelf.now in
    let all = expiring_on c.args.day m.rows in
    let row = c.in-Some.row in
    let count = c.count_of_row.result in
    let exact : c.loop-edits.expired ≤ row.first → c.saturating_add-expired.result ≡ c.loop-edits.expired + count = λ below. search rules in
    looked_both m _ _ c.loop-edits.expired c.in_ok-row.field-0 c.saturating_add-expired.result (IsExpiring all (from_of c.loop-edits.after) c.loop-edits.edits.items)
    (λ (s : State) (rs : List Piece) (found : Option Piece). found ≡ next_expiring_row c.args.day c.loop-edits.after rs) _ c.loop-edits.invariant c.in_ok-row.ensures.looks
    (λ none is found. rw c.in_ok-push_edit.ensures (expiring_more all (from_of c.loop-edits.after) c.loop-edits.edits.items c.loop-edits.expired count c.saturating_add-expired.result row c.in_ok-edit.edit
    (rising_on c.args.day m.rows (c.requires.rising none)) is (rw c.in-Some.is at found) c.in_ok-edit.ensures c.count_of_row.ensures.value exact))

pub returns-in_err-row : goal.returns-in_err-row
returns-in_err-row g c = looked_failed _ _ _ _ _ _ c.from_residual.ensures.1
    (looked_then _ _ _ c.loop-edits.expired _ _ (λ s rs found. found ≡ next_expiring_row c.args.day c.loop-edits.after rs) c.loop-edits.invariant c.in_err-row.ensures.looks)

pub returns-in_err-edit : goal.returns-in_err-edit
returns-in_err-edit g c = looked_full _ _ _ _ _ _ c.from_residual-in_err-edit.ensures.1
    (looked_then _ _ _ c.loop-edits.expired _ _ (λ s rs found. found ≡ next_expiring_row c.args.day c.loop-edits.after rs) c.loop-edits.invariant c.in_ok-row.ensures.looks)

pub returns-in_err-push_edit : goal.returns-in_err-push_edit
returns-in_err-push_edit g c = looked_full _ _ _ _ _ _ c.from_residual-in_err-push_edit.ensures.1
    (looked_then _ _ _ c.loop-edits.expired _ _ (λ s rs found. found ≡ next_expiring_row c.args.day c.loop-edits.after rs) c.loop-edits.invariant c.in_ok-row.ensures.looks)
