use Rattle.std.proofs.Common.{◌≡◌, ◌≤◌, ◌+◌, ◌-◌, Ok, Some, Option, IfSome}
use Rattle.std.specs.FinMap.{get}
use Rattle.goo_types.specs.declared.piece.Piece.{Piece}
use Rattle.goo_core_shelf.specs.Shelf.{Looks}
use Rattle.goo_core_shelf.specs.Rows.{naming_account, next_row, EndsFrom}
use Rattle.goo_spec_runs.specs.NextRun.{from_of}
use Rattle.goo_spec_runs.proofs.Reaching.{IsReaching}
use Rattle.goo_core_reads.specs.Reads.{kept_where, names}
use Rattle.goo_core_reads.proofs.next_run.reach.Given as goal

abbrev pub invariant-loop-next : goal.invariant-loop-next
invariant-loop-next g l = record {
  reaches : Looks (g.S.Shelf.seen l.fn.shelf) (g.S.Shelf.seen l.shelf) (Ok (l.run, l.ahead))
      (λ (found : Piece × Option Piece). (Some l.row ≡ next_row l.account l.after (g.S.Shelf.seen l.fn.shelf).rows
      → IsReaching (kept_where (names l.account) (get (g.S.Shelf.seen l.fn.shelf).state.at)) (from_of l.after) (naming_account l.account (g.S.Shelf.seen l.fn.shelf).rows) found.0)
      × found.1 ≡ next_row l.account (Some found.0.last) (g.S.Shelf.seen l.fn.shelf).rows);
  starts : from_of l.after ≤ l.run.first;
  runs : l.run.first ≤ l.run.last;
  ahead : IfSome l.ahead (EndsFrom (l.run.last + 1));
}

abbrev pub decreases-loop-next : goal.decreases-loop-next
decreases-loop-next g l = 100000000000000 - l.run.last
