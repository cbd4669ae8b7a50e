use Rattle.std.proofs.Common.{◌≡◌, ◌≤◌, ◌-◌}
use Rattle.goo_core_reads.specs.Ahead.{IsSeen}
use Rattle.goo_spec_runs.specs.NextRun.{from_of}
use Rattle.goo_files_documents.specs.Counts.{all_of, counts_of}
use Rattle.goo_files_documents.specs.Runs.{statement_line}
use Rattle.goo_files.proofs.Lining.{IsGoing}
use Rattle.goo_files.proofs.statement.write_runs.Given as goal

abbrev pub invariant-loop-run : goal.invariant-loop-run
invariant-loop-run g l = record {
  going : IsGoing statement_line counts_of (g.S.Shelf.seen l.fn.registry.shelf) (g.S.Shelf.seen l.registry.shelf) (g.W.Write.contents l.fn.writer) (g.W.Write.contents l.writer) l.account (from_of l.place.after) l.counts;
  seen : (g.S.Shelf.seen l.registry.shelf).defects ≡ 0 → IsSeen l.account l.place.after (g.S.Shelf.seen l.registry.shelf).rows l.place.ahead;
  counted : all_of l.counts ≤ from_of l.place.after;
}

abbrev pub decreases-loop-run : goal.decreases-loop-run
decreases-loop-run g l = 100000000000000 - from_of l.place.after
