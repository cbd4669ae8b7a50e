use Rattle.std.proofs.Common.{◌≡◌, None, Option}
use Rattle.std.specs.FinMap.{get}
use Rattle.goo_types.specs.declared.piece.Piece.{Piece}
use Rattle.goo_core_shelf.specs.Rows.{naming_account, next_row}
use Rattle.goo_spec_runs.specs.NextRun.{from_of, IsNextRun}
use Rattle.goo_spec_runs.proofs.Reaching.{reaching_none}
use Rattle.goo_core_reads.specs.Reads.{kept_where, names}
use Rattle.goo_core_reads.specs.Ahead.{IsSeen}
use Rattle.goo_core_shelf.proofs.Looking.{looked}
use Rattle.goo_core_reads.proofs.Naming.{named}
use Rattle.goo_core_reads.proofs.next_run.next_run_naming.Goals as goal

pub returns-in-None-clause-looks : goal.returns-in-None-clause-looks
returns-in-None-clause-looks g c =
    let m = g.S.Shelf.seen c.args.shelf.now in
    let place = c.args.place.now in
    let from = from_of place.after in
    let map = kept_where (names c.args.account) (get m.state.at) in
    let rows = naming_account c.args.account m.rows in
    looked m (g.S.Shelf.seen c.next_of.new.self) c.in_ok-row.field-0 None
    (λ (found : Option Piece). found ≡ next_row c.args.account place.after m.rows)
    (λ (found : Option Piece). IsSeen c.args.account place.after m.rows place.ahead → IsNextRun map from found)
    c.in_ok-row.ensures.looks
    (λ none found so.
    let n = named m.state m.rows c.args.account (c.requires.rows none) (c.requires.sound none) in
    reaching_none map from rows n.same (rw c.in-None.is at found))
