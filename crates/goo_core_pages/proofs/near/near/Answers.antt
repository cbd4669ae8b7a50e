use Rattle.std.proofs.Common.{rules, arith, ltb, leb, ◌≡◌, ◌+◌, ◌-◌, ◌≤◌, length, length-drop, take, drop}
use Rattle.std.proofs.lemmas.List.{take_all}
use Rattle.std.proofs.lemmas.List.Sorted.{IsPartitionPoint-from_clause}
use Rattle.goo_ranges_pieces.proofs.Touching.{partitioned-from, partitioned-to}
use Rattle.goo_ranges_pieces.proofs.Rising.{rising-drop}
use Rattle.goo_core_pages.proofs.NearLemmas.{near-block}
use Rattle.goo_core_pages.proofs.near.near.Goals as goal

pub returns : goal.returns
returns c =
    let ps = c.args.rows.now in
    let first = c.args.range.first in
    let last = c.args.range.last in
    let start = c.partition_point-start.result in
    let count = c.partition_point-count.result in
    let rest = drop start ps in
    let size = length-drop start ps in
    let whole : take (length ps - start) rest ≡ rest = take_all (length ps - start) rest (omega (arith, size)) in
    let within : start ≤ length ps = c.partition_point-start.ensures.bound in
    let within_too : count ≤ length rest = rw whole at c.partition_point-count.ensures.bound in
    let one = IsPartitionPoint-from_clause (λ p. ltb (p.last + 1) first) ps start c.partition_point-start.ensures.partitioned (partitioned-from ps first c.requires) (λ a r f k. search rules) in
    let two = IsPartitionPoint-from_clause (λ p. leb p.first (last + 1)) rest count (rw whole at c.partition_point-count.ensures.partitioned) (partitioned-to rest (last + 1) (rising-drop ps start c.requires)) (λ a r f k. search rules) in
    rw whole (near-block c.args.range ps start count within within_too one two)
