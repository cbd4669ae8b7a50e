use Rattle.std.proofs.Common.{rules, ltb}
use Rattle.std.proofs.lemmas.List.{take_rest}
use Rattle.std.proofs.lemmas.List.Sorted.{IsPartitionPoint-from_clause}
use Rattle.goo_ranges_pieces.proofs.Rest.{partitioned, rest-from_point}
use Rattle.goo_ranges_pieces.proofs.lookups.reaching.Goals as goal

pub returns : goal.returns
returns c =
    let items = c.args.pieces.now in
    let n = c.args.number in
    let start = c.partition_point-start.result in
    let point = IsPartitionPoint-from_clause (λ p. ltb p.last n) items start c.partition_point-start.ensures.partitioned (partitioned items n c.requires) (λ a r f' k. search rules) in
    rw take_rest (rest-from_point items n start c.requires c.partition_point-start.ensures.bound point)
