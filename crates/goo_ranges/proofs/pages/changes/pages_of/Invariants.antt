use Rattle.std.proofs.Common.{◌≡◌, ◌-◌, ◌≤◌, length, take}
use Rattle.goo_ranges.specs.Paging.{joined, AreFilled}
use Rattle.goo_ranges.proofs.pages.changes.pages_of.Given as goal

abbrev pub invariant-loop-start : goal.invariant-loop-start
invariant-loop-start l = record {
  bound : l.start ≤ length l.pieces;
  same : joined l.pages.items ≡ take l.start l.pieces;
  filled : AreFilled l.pages.items;
}

abbrev pub decreases-loop-start : goal.decreases-loop-start
decreases-loop-start l = length l.pieces - l.start
