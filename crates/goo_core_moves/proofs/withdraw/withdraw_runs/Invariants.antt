use Rattle.std.proofs.Common.{◌≡◌, take}
use Rattle.std.specs.Prelude.{length, count_by}
use Rattle.goo_types.specs.Piece.{IsRising}
use Rattle.goo_ranges.specs.Change.{meets}
use Rattle.goo_core_moves.specs.Changes.{AreMade}
use Rattle.goo_core_moves.specs.Withdraw.{runs_withdrawn}
use Rattle.goo_core_moves.proofs.withdraw.withdraw_runs.Given as goal

abbrev pub invariant-loop-run : goal.invariant-loop-run
invariant-loop-run l = record {
  made : AreMade l.fn.range l.fn.book (runs_withdrawn l.fn.range l.fn.act (take l.run-index l.runs)) l.book l.edits.items;
  one_each : length l.edits.items ≡ count_by (meets l.fn.range.first l.fn.range.last) (take l.run-index l.runs);
  rising : IsRising l.book;
}
