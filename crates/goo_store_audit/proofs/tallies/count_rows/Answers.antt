use Rattle.std.proofs.Common.{◌≡◌, ◌<◌, ◌+◌, ◌++◌, [], ◌∷◌, map, drop, take, length, refl, ap, sym, subst, ◌∙◌, arith}
use Rattle.std.proofs.lemmas.List.{drop_more, take_more}
use Rattle.goo_store_audit.specs.Counting.{AreAdded, AreCountable, end_of, shares_of}
use Rattle.goo_store_audit.proofs.CountingLemmas.{none_added, added_push}
use Rattle.goo_store_audit.proofs.tallies.count_rows.Goals as goal
use Rattle.goo_tables_pages.specs.DevicePieces.{device_piece_in}

pub loop-row-init : goal.loop-row-init
loop-row-init c = record {
  ends = refl;
  added = none_added c.args.own c.args.withdrawals.now c.args.tally.now;
  below = c.requires;
  up = omega arith;
  countable = λ can. can;
}

pub loop-row-preserved : goal.loop-row-preserved
loop-row-preserved c =
    let rows = c.args.rows.now in
    let i = c.loop-row.row-index in
    let row = c.row-item.result in
    let low : i < length rows = omega (arith, c.loop-row-test.true) in
    let left : drop i rows ≡ row ∷ drop (i + 1) rows = drop_more rows i row low ∙ ap (λ r. r ∷ drop (i + 1) rows) (sym c.row-item.is) in
    let seen : take (i + 1) rows ≡ take i rows ++ row ∷ [] = take_more rows i row low ∙ ap (λ r. take i rows ++ r ∷ []) (sym c.row-item.is) in
    let next = c.in_ok-next.ensures.next in
    record {
      ends = ap (λ n. end_of n (shares_of (drop (i + 1) rows))) next.0 ∙ sym (ap (λ rs. end_of c.loop-row.next (shares_of rs)) left) ∙ c.loop-row.invariant.ends;
      added =
          subst (λ rs. AreAdded c.args.own c.args.withdrawals.now (shares_of rs) c.args.tally.now c.count_row.new.tally) (sym seen)
          (added_push c.args.own c.args.withdrawals.now (take i rows) row c.args.tally.now c.loop-row.tally c.count_row.new.tally c.loop-row.invariant.added c.in_ok-next.ensures.added);
      below = next.2;
      up = omega (arith, c.loop-row.invariant.up, next.1);
      countable = λ can.
          let here = subst (λ rs. AreCountable c.loop-row.next (map device_piece_in rs)) left (c.loop-row.invariant.countable can) in
          subst (λ n. AreCountable n (map device_piece_in (drop (i + 1) rows))) (sym next.0) here.1;
    }
