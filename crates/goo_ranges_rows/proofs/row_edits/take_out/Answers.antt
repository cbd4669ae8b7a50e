use Rattle.std.proofs.Common.{ltb, arith, rules, sym}
use Rattle.std.proofs.lemmas.List.Sorted.{IsPartitionPoint-from_clause, IsPartitionedBy-ltb}
use Rattle.std.proofs.lemmas.Bool.Decides.{nat_tests}
use Rattle.std.proofs.lemmas.List.{get_or_read}
use Rattle.goo_ranges_rows.proofs.EditingRows.{without-found, without-missed, removed-sorted}
use Rattle.goo_ranges_rows.proofs.row_edits.take_out.Goals as goal
use Rattle.goo_ranges_rows.proofs.row_edits.take_out.Goals.{else-index-len-via-then-index-len+else-eq, else-index-len-via-else-index-len}

pub returns-then-eq-clause-rows : goal.returns-then-eq-clause-rows
returns-then-eq-clause-rows c =
    let xs = c.args.rows.now.items in
    let parted = IsPartitionedBy-ltb (λ p. p.first) xs c.args.first c.requires.sorted in
    let point = IsPartitionPoint-from_clause (λ p. ltb p.first c.args.first) xs _ (rw c.deref.ensures.value at c.partition_point-index.ensures.partitioned) parted (λ a r q k. search rules) in
    rw c.remove.ensures.items (sym (without-found c.args.first xs c.partition_point-index.result c.index.result.now point.0 (omega arith) (grind (arith, nat_tests))))

pub returns-then-eq-clause-sorted : goal.returns-then-eq-clause-sorted
returns-then-eq-clause-sorted c = rw c.remove.ensures.items (removed-sorted c.args.rows.now.items c.partition_point-index.result (omega arith) c.requires.sorted)

pub returns-else-index-len-clause-rows : goal.returns-else-index-len-clause-rows
returns-else-index-len-clause-rows c =
    let xs = c.args.rows.now.items in
    let parted = IsPartitionedBy-ltb (λ p. p.first) xs c.args.first c.requires.sorted in
    let point = IsPartitionPoint-from_clause (λ p. ltb p.first c.args.first) xs _ (rw c.deref.ensures.value at c.partition_point-index.ensures.partitioned) parted (λ a r q k. search rules) in
    sym (without-missed c.args.first xs c.partition_point-index.result c.requires.sorted point (λ lt d.
    elim c.else-index-len.branch [
      | else-index-len-via-then-index-len+else-eq w ↦ let read = get_or_read xs c.partition_point-index.result w.index.result.now lt w.index.ensures d in rw (← read) (grind (arith, nat_tests))
      | else-index-len-via-else-index-len w ↦ absurd (omega arith)
    ]))
