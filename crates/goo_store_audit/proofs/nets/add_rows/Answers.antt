use Rattle.std.proofs.Common.{◌≡◌, ◌<◌, ◌+◌, ◌++◌, [], ◌∷◌, map, drop, take, length, refl, ap, sym, subst, ◌∙◌, arith}
use Rattle.std.proofs.lemmas.List.{drop_more, take_more}
use Rattle.goo_store_audit.specs.NetCounting.{AreNets, AreNetsAdded, end_of_nets}
use Rattle.goo_store_audit.proofs.NetLemmas.{no_nets, nets_added}
use Rattle.goo_store_audit.proofs.nets.add_rows.Goals as goal
use Rattle.goo_tables_pages.specs.NetRows.{net_in}

pub loop-row-init : goal.loop-row-init
loop-row-init c = record {
  ends = refl;
  added = no_nets c.args.sums.now;
  below = c.requires;
  up = omega arith;
  good = λ are. are;
}

pub loop-row-preserved : goal.loop-row-preserved
loop-row-preserved c =
    let rows = c.args.rows.now in
    let i = c.loop-row.row-index in
    let row = c.row-item.result in
    let low : i < length rows = omega (arith, c.loop-row-test.true) in
    let left : drop i rows ≡ row ∷ drop (i + 1) rows = drop_more rows i row low ∙ ap (λ r. r ∷ drop (i + 1) rows) (sym c.row-item.is) in
    let seen : take (i + 1) rows ≡ take i rows ++ row ∷ [] = take_more rows i row low ∙ ap (λ r. take i rows ++ r ∷ []) (sym c.row-item.is) in
    let next = c.in_ok-next.ensures.next in
    record {
      ends = ap (λ n. end_of_nets n (map net_in (drop (i + 1) rows))) next.0 ∙ sym (ap (λ rs. end_of_nets c.loop-row.next (map net_in rs)) left) ∙ c.loop-row.invariant.ends;
      added =
          subst (λ rs. AreNetsAdded (map net_in rs) c.args.sums.now c.add_row.new.sums) (sym seen)
          (nets_added (take i rows) row c.args.sums.now c.loop-row.sums c.add_row.new.sums c.loop-row.invariant.added c.in_ok-next.ensures.added);
      below = next.2;
      up = omega (arith, c.loop-row.invariant.up, next.1);
      good = λ are.
          let here = subst (λ rs. AreNets c.loop-row.next (map net_in rs)) left (c.loop-row.invariant.good are) in
          subst (λ n. AreNets n (map net_in (drop (i + 1) rows))) (sym next.0) here.1;
    }
