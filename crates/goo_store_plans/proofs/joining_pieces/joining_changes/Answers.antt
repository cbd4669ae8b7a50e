use Rattle.std.proofs.Common.{rules, ◌-◌, ◌<◌, ◌≤◌, length, arith}
use Rattle.goo_store_plans.proofs.PiecesJoined.{changes_more, next_more, all_of_them, by_any}
use Rattle.goo_store_plans.proofs.joining_pieces.joining_changes.Goals as goal

pub loop-done-preserved : goal.loop-done-preserved
loop-done-preserved c =
    let xs = c.args.pieces.now in
    let k = c.loop-done.done in
    let low : k < length xs = search rules in
    let inside : length xs - 1 - k < length xs = omega (arith, low) in
    record {
      changes = changes_more xs k _ low (by_any xs (length xs - 1 - k) _ _ inside) c.loop-done.changes.items c.join_next.new.changes.items c.loop-done.next c.loop-done.invariant.changes c.loop-done.invariant.next c.in_ok-join_next.ensures.changes;
      next = next_more xs k _ low (by_any xs (length xs - 1 - k) _ _ inside) c.loop-done.next c.in_ok-join_next.field-0 c.loop-done.invariant.next c.in_ok-join_next.ensures.row;
      fits = c.in_ok-join_next.ensures.fits c.loop-done.invariant.fits;
      low = λ all. c.in_ok-join_next.ensures.low (all (length xs - 1 - k) _ inside) (c.loop-done.invariant.low all);
    }

pub returns-clause-joins : goal.returns-clause-joins
returns-clause-joins c t same keyed =
    let high : length c.args.pieces.now ≤ c.loop-done.done = omega (arith, c.loop-done-test.false) in
    all_of_them t c.args.pieces.now c.loop-done.changes.items c.loop-done.done high c.loop-done.invariant.changes same keyed
