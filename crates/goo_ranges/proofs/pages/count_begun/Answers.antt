use Rattle.std.proofs.Common.{◌≡◌, ◌<◌, leb, true, false, [], get_or, rules, arith}
use Rattle.std.specs.List.Sorted.{IsPartitionPoint}
use Rattle.std.proofs.lemmas.Bool.Decides.{nat_tests}
use Rattle.std.proofs.lemmas.List.Sorted.{IsPartitionPoint-from_clause, IsPartitionedBy-leb}
use Rattle.goo_ranges.specs.Paging.{begin_of}
use Rattle.goo_ranges.proofs.Paging.{begins-sorted, begun-above}
use Rattle.goo_ranges.proofs.pages.count_begun.Goals as goal
use Rattle.goo_ranges.proofs.pages.count_begun.Goals.{After-partition_point}

point : (c : After-partition_point) → IsPartitionPoint (λ x. leb (begin_of x) c.args.number ≡ true) (λ x. leb (begin_of x) c.args.number ≡ false) c.args.pages.now c.partition_point.result
point c =
    let xs = c.args.pages.now in
    let parted = IsPartitionedBy-leb begin_of xs c.args.number (begins-sorted 0 xs c.requires.filled c.requires.rising) in
    IsPartitionPoint-from_clause (λ x. leb (begin_of x) c.args.number) xs _ c.partition_point.ensures.partitioned parted (λ a r q k. search rules)

pub returns-clause-above : goal.returns-clause-above
returns-clause-above c = begun-above 0 c.args.pages.now c.partition_point.result c.args.number c.requires.filled c.requires.rising (λ lt.
    let at = (point c).1 c.partition_point.result [] (omega arith) lt in
    let above : c.args.number < begin_of (get_or c.args.pages.now c.partition_point.result []) = grind (arith, nat_tests) in
    above)
