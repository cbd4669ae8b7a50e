use Rattle.std.proofs.Common.{◌≡◌, leb, true, false, arith, rules, sym}
use Rattle.std.proofs.lemmas.List.Sorted.{IsPartitionPoint-from_clause, IsPartitionedBy-leb, IsNonDecreasingBy-insert}
use Rattle.std.proofs.lemmas.Bool.Decides.{nat_tests}
use Rattle.std.specs.List.Sorted.{IsPartitionPoint}
use Rattle.goo_ranges_rows.proofs.EditingRows.{with-inserted}
use Rattle.goo_ranges_rows.proofs.row_edits.put_in.Goals as goal

point : (c : goal.In_ok-insert) → IsPartitionPoint (λ q. leb q.first c.args.row.first ≡ true) (λ q. leb q.first c.args.row.first ≡ false) c.args.rows.now.items c.partition_point-index.result
point c =
    let xs = c.args.rows.now.items in
    let parted = IsPartitionedBy-leb (λ p. p.first) xs c.args.row.first c.requires.sorted in
    IsPartitionPoint-from_clause (λ p. leb p.first c.args.row.first) xs _ (rw c.deref.ensures.value at c.partition_point-index.ensures.partitioned) parted (λ a r q k. search rules)

pub returns-clause-rows : goal.returns-clause-rows
returns-clause-rows c =
    rw c.in_ok-insert.ensures.items (sym (with-inserted c.args.row c.args.rows.now.items c.partition_point-index.result (rw c.deref.ensures.value at c.partition_point-index.ensures.bound) (point c)))

pub returns-clause-sorted : goal.returns-clause-sorted
returns-clause-sorted c =
    let at = point c in
    rw c.in_ok-insert.ensures.items (IsNonDecreasingBy-insert (λ p. p.first) c.args.rows.now.items c.partition_point-index.result c.args.row c.requires.sorted (rw c.deref.ensures.value at c.partition_point-index.ensures.bound)
    (λ k d lt. let low = at.0 k d (omega arith) lt in grind (arith, nat_tests))
    (λ k d le lt. let high = at.1 k d le lt in grind (arith, nat_tests)))
