use Rattle.std.proofs.Common.{◌≡◌, ◌+◌, ◌-◌, ◌≤◌, ◌<◌, length, take, drop, arith}
use Rattle.std.proofs.lemmas.Bool.Decides.{nat_tests}
use Rattle.goo_types.specs.Piece.{IsRisingFrom}
use Rattle.goo_ranges.specs.Paging.{joined}
use Rattle.goo_ranges_pieces.specs.Walk.{end_of}
use Rattle.goo_ranges.proofs.Paging.{above-more, ended-fewer}
use Rattle.goo_ranges.proofs.pages.changes.window.Goals as goal
use Rattle.goo_ranges.proofs.pages.changes.window.Goals.{After-count_begun-begun}

before : (c : After-count_begun-begun) → end_of 0 (joined (take c.count_before-from.result c.args.pages.now)) < c.args.first
before c = rw c.get.ensures.value at c.count_before-from.ensures.below

behind : (c : After-count_begun-begun) → IsRisingFrom (c.args.last + 2) (joined (drop c.count_begun-begun.result c.args.pages.now))
behind c =
    let next : c.args.last + 1 + 1 ≡ c.args.last + 2 = omega arith in
    rw next at (rw c.get-2.ensures.value at c.count_begun-begun.ensures.above)

pub returns-then-from-begun : goal.returns-then-from-begun
returns-then-from-begun c =
    let known = (goal.at.returns-then-from-begun c).After-count_begun-begun in
    record {
      order = omega arith;
      bound = c.count_begun-begun.ensures.bound;
      below = before known;
      above = behind known;
    }

pub returns-then-from-gt0 : goal.returns-then-from-gt0
returns-then-from-gt0 c =
    let known = (goal.at.returns-then-from-gt0 c).After-count_begun-begun in
    let from = c.count_before-from.result in
    record {
      order = omega arith;
      bound = c.count_before-from.ensures.bound;
      below = ended-fewer c.args.first c.args.pages.now (from - 1) from (omega arith) c.requires.rising (before known);
      above = above-more (c.args.last + 2) c.args.pages.now c.count_begun-begun.result from (omega arith) (behind known);
    }

pub returns-then-is_empty : goal.returns-then-is_empty
returns-then-is_empty c =
    let known = (goal.at.returns-then-is_empty c).After-count_begun-begun in
    record {
      order = omega arith;
      bound = omega arith;
      below = ended-fewer c.args.first c.args.pages.now 0 c.count_before-from.result (omega arith) c.requires.rising (before known);
      above = above-more (c.args.last + 2) c.args.pages.now c.count_begun-begun.result 0 (omega arith) (behind known);
    }

pub returns : goal.returns
returns c =
    let known = (goal.at.returns c).After-count_begun-begun in
    let some : 1 ≤ length c.args.pages.now = grind (arith, nat_tests) in
    record {
      order = omega arith;
      bound = some;
      below = ended-fewer c.args.first c.args.pages.now 0 c.count_before-from.result (omega arith) c.requires.rising (before known);
      above = above-more (c.args.last + 2) c.args.pages.now c.count_begun-begun.result 1 (omega arith) (behind known);
    }
