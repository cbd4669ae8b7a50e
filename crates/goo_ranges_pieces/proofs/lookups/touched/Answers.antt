use Rattle.std.proofs.Common.{rules, arith, ltb, leb, ◌+◌, ◌≤◌}
use Rattle.std.proofs.lemmas.List.Sorted.{IsPartitionPoint-from_clause}
use Rattle.goo_ranges_pieces.proofs.Touching.{partitioned-from, partitioned-to, touched-from_points}
use Rattle.goo_ranges_pieces.proofs.lookups.touched.Goals as goal

pub returns : goal.returns
returns c =
    let items = c.args.pieces.now in
    let first = c.args.first in
    let last = c.args.last in
    let from = c.partition_point-from.result in
    let to = c.partition_point-to.result in
    let rising = c.requires.rising in
    let valid = c.get-first.ensures.limit in
    let one =
    IsPartitionPoint-from_clause (λ p. ltb (p.last + 1) first) items from c.partition_point-from.ensures.partitioned (partitioned-from items first rising) (λ a r f' k. search rules)
    in
    let two =
    IsPartitionPoint-from_clause (λ p. leb p.first (last + 1)) items to c.partition_point-to.ensures.partitioned (partitioned-to items (last + 1) rising) (λ a r f' k. search rules)
    in
    let up : first ≤ last = c.requires.forward in
    touched-from_points items first last from to rising (omega arith) (omega arith) c.partition_point-from.ensures.bound c.partition_point-to.ensures.bound one two
