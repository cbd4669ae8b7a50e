use Rattle.std.proofs.Common.{◌≡◌, ltb, true, false, [], rules, arith}
use Rattle.std.specs.List.Sorted.{IsPartitionPoint}
use Rattle.std.proofs.lemmas.Bool.Decides.{nat_tests}
use Rattle.std.proofs.lemmas.List.Sorted.{IsPartitionPoint-from_clause, IsPartitionedBy-ltb}
use Rattle.goo_ranges_pieces.specs.Walk.{end_of}
use Rattle.goo_ranges.proofs.Paging.{ends-sorted, ended-below}
use Rattle.goo_ranges.proofs.pages.count_before.Goals as goal
use Rattle.goo_ranges.proofs.pages.count_before.Goals.{After-partition_point}

point : (c : After-partition_point) → IsPartitionPoint (λ x. ltb (end_of 0 x) c.args.number ≡ true) (λ x. ltb (end_of 0 x) c.args.number ≡ false) c.args.pages.now c.partition_point.result
point c =
    let xs = c.args.pages.now in
    let parted = IsPartitionedBy-ltb (end_of 0) xs c.args.number (ends-sorted 0 xs c.requires.filled c.requires.rising) in
    IsPartitionPoint-from_clause (λ x. ltb (end_of 0 x) c.args.number) xs _ c.partition_point.ensures.partitioned parted (λ a r q k. search rules)

pub returns-clause-below : goal.returns-clause-below
returns-clause-below c = ended-below 0 c.args.number c.args.pages.now c.partition_point.result c.requires.some c.requires.filled c.partition_point.ensures.bound (point c).0

pub returns-clause-reaches : goal.returns-clause-reaches
returns-clause-reaches c lt =
    let at = (point c).1 c.partition_point.result [] (omega arith) lt in
    grind (arith, nat_tests)
