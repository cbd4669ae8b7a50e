use Rattle.std.proofs.Common.{◌≡◌, ◌≤◌, ◌++◌, [], drop}
use Rattle.std.specs.Prelude.{slice_range}
use Rattle.goo_log_chain.specs.Rows.{rows_behind}
use Rattle.goo_log_chain.proofs.rows.rows.Given as goal

abbrev pub invariant-loop-index : goal.invariant-loop-index
invariant-loop-index l = record {
  begun : l.start ≤ l.index;
  left : l.out.items ++ rows_behind (slice_range l.report l.start l.index) (drop l.index l.report) ≡ rows_behind [] l.report;
}
