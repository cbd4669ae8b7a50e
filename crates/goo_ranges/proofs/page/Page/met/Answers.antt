use Rattle.std.proofs.Common.{rules, arith, ltb, leb, ◌≤◌}
use Rattle.std.proofs.lemmas.List.Sorted.{IsPartitionPoint-from_clause}
use Rattle.goo_ranges_pieces.proofs.Rest.{partitioned}
use Rattle.goo_ranges_pieces.proofs.Touching.{partitioned-to}
use Rattle.goo_ranges.proofs.Meeting.{meeting-from_points}
use Rattle.goo_ranges.proofs.page.Page.met.Goals as goal

pub returns : goal.returns
returns c =
    let items = c.self.inside.pieces.items in
    let first = c.args.first in
    let last = c.args.last in
    let from = c.partition_point-from.result in
    let to = c.partition_point-to.result in
    let one =
    IsPartitionPoint-from_clause (λ p. ltb p.last first) c.deref.result.now from c.partition_point-from.ensures.partitioned (rw c.deref.ensures.value (partitioned items first c.self.invariant)) (λ a r f' k. search rules)
    in
    let two =
    IsPartitionPoint-from_clause (λ p. leb p.first last) c.deref-2.result.now to c.partition_point-to.ensures.partitioned (rw c.deref-2.ensures.value (partitioned-to items last c.self.invariant)) (λ a r f' k. search rules)
    in
    let within = rw c.deref.ensures.value at c.partition_point-from.ensures.bound in
    let within_too = rw c.deref-2.ensures.value at c.partition_point-to.ensures.bound in
    let up : first ≤ last = c.requires in
    let some = c.get-last.ensures.limit in
    rw (← c.self.view_is)
    (meeting-from_points items first last from to c.self.invariant (omega arith) up within within_too (rw c.deref.ensures.value at one) (rw c.deref-2.ensures.value at two))
