use Rattle.std.proofs.Common.{◌≡◌, ℕ, ◌<◌, ◌≤◌, drop, false}
use Rattle.goo_spec.specs.Lots.{is_absent}
use Rattle.goo_types.specs.Piece.{at_of}
use Rattle.goo_ranges.specs.Paging.{joined, IsLeft}
use Rattle.goo_ranges.proofs.pages.least_missing_in.Given as goal

abbrev pub invariant-loop-page : goal.invariant-loop-page
invariant-loop-page l = record {
  left : IsLeft (joined l.pages) (joined (drop l.page-index l.page-items)) l.from;
  low : l.fn.first ≤ l.from;
  high : l.from ≤ l.fn.last;
  present : (m : ℕ) → l.fn.first ≤ m → m < l.from → is_absent (at_of (joined l.pages) m) ≡ false;
}
