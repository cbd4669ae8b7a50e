use Rattle.std.proofs.Common.{◌≡◌, ltb, true, false, [], rules, arith}
use Rattle.std.specs.List.Sorted.{IsPartitionPoint}
use Rattle.std.proofs.lemmas.Bool.Decides.{nat_tests}
use Rattle.std.proofs.lemmas.List.Sorted.{IsPartitionPoint-from_clause, IsPartitionedBy-ltb}
use Rattle.goo_core_pages.specs.Paging.{last_begin}
use Rattle.goo_core_pages.proofs.OrderLemmas.{ends-sorted, below-pages}
use Rattle.goo_core_pages.proofs.paged.count_before.Goals as goal
use Rattle.goo_core_pages.proofs.paged.count_before.Goals.{After-partition_point}

point : (c : After-partition_point) → IsPartitionPoint (λ x. ltb (last_begin 0 x) c.args.number ≡ true) (λ x. ltb (last_begin 0 x) c.args.number ≡ false) c.args.pages.now c.partition_point.result
point c =
    let xs = c.args.pages.now in
    let parted = IsPartitionedBy-ltb (last_begin 0) xs c.args.number (ends-sorted 0 xs c.requires.fit c.requires.order) in
    IsPartitionPoint-from_clause (λ x. ltb (last_begin 0 x) c.args.number) xs _ c.partition_point.ensures.partitioned parted (λ a r q k. search rules)

pub returns-clause-below : goal.returns-clause-below
returns-clause-below c = below-pages 0 c.args.number c.args.pages.now c.partition_point.result c.requires.fit c.requires.order (point c).0 c.partition_point.ensures.bound

pub returns-clause-reaches : goal.returns-clause-reaches
returns-clause-reaches c lt =
    let at = (point c).1 c.partition_point.result [] (omega arith) lt in
    grind (arith, nat_tests)
