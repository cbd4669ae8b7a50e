use Rattle.std.proofs.Common.{◌≡◌, ◌+◌, ◌-◌, ◌≤◌, ◌++◌, ◌∷◌, [], ◌∙◌, length, take, drop, arith, ap}
use Rattle.std.proofs.lemmas.List.{length-take-le, length-drop, take_all}
use Rattle.goo_ranges.specs.Paging.{joined}
use Rattle.goo_ranges.proofs.JoinedPages.{joined-more}
use Rattle.goo_ranges.proofs.Paging.{filled-append, take-on}
use Rattle.goo_ranges_pieces.proofs.Touching.{between-rising}
use Rattle.goo_ranges.proofs.pages.changes.pages_of.Goals as goal

pub of_rows-requires : goal.of_rows-requires
of_rows-requires c = rw c.in_ok-rows.ensures.items (between-rising c.args.pieces.now _ _ c.requires)

pub loop-start-preserved : goal.loop-start-preserved
loop-start-preserved c =
    let all = c.args.pieces.now in
    let start = c.loop-start.start in
    let end = start + c.share.result in
    let most : c.share.result ≤ length all - start = c.share.ensures.most in
    let some : 1 ≤ c.share.result = c.share.ensures.some in
    let page : c.of_rows.result ≡ take (end - start) (drop start all) = c.of_rows.ensures ∙ c.in_ok-rows.ensures.items in
    let left = length-drop start all in
    let size = length-take-le (end - start) (drop start all) (omega (arith, most, left)) in
    let whole = ap length page ∙ size in
    let put = c.in_ok-push.ensures.items in
    record {
      bound = omega arith;
      same = ap joined put ∙ joined-more c.loop-start.pages.items c.of_rows.result ∙ (λ j. c.loop-start.invariant.same j ++ page j) ∙ take-on all start end (omega arith);
      filled = rw put (filled-append c.loop-start.pages.items (c.of_rows.result ∷ []) c.loop-start.invariant.filled (omega (arith, whole, some), tt));
    }

pub returns-clause-pieces : goal.returns-clause-pieces
returns-clause-pieces c = c.loop-start.invariant.same ∙ take_all c.loop-start.start c.args.pieces.now (omega arith)
