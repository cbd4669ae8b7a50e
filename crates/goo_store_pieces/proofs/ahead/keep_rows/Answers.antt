use Rattle.std.proofs.Common.{◌≡◌, ◌<◌, ◌+◌, ◌∷◌, drop, map, length, get_or, refl, sym, subst, arith}
use Rattle.std.proofs.lemmas.List.{drop_all, drop_more}
use Rattle.std.proofs.lemmas.List.Elements.{All-nil}
use Rattle.goo_store_pieces.specs.Ahead.{AreAhead}
use Rattle.goo_store_pieces.specs.declared.ahead.Ahead.TheVariants.{Row}
use Rattle.goo_store_pieces.proofs.Pages.{IsLeftOf, ends, goes, page_left}
use Rattle.goo_store_pieces.proofs.ahead.keep_rows.Goals as goal

pub loop-row-init : goal.loop-row-init
loop-row-init c t page = (subst (AreAhead t) (sym c.clear.ensures.items) (All-nil _), (256, refl, page_left t c.args.account c.args.after c.args.page.now page))

pub loop-row-preserved : goal.loop-row-preserved
loop-row-preserved c t page =
    let xs = c.args.page.now in
    let i = c.loop-row.row-index in
    let row = get_or xs i (record { first = 0; last = 0; lot = 0; kind = 0; account = 0; act = 0 }) in
    let so = c.loop-row.invariant t page in
    let low : i < length xs = omega (arith, c.loop-row-test.true) in
    let split : drop i xs ≡ row ∷ drop (i + 1) xs = drop_more xs i _ low in
    let step = goes t c.args.account c.loop-row.end so.1.0 (Row row) (map Row (drop (i + 1) xs)) (subst (λ ps. IsLeftOf t c.args.account c.loop-row.end so.1.0 (map Row ps)) split so.1.2) in (
      c.keep_after.ensures t step.next so.0,
      (step.fewer, omega (arith, step.counts, so.1.1), step.others),
    )

pub returns : goal.returns
returns c t page =
    let xs = c.args.page.now in
    let i = c.loop-row.row-index in
    let so = c.loop-row.invariant t page in
    c.keep_end.ensures t
    (λ few. ends t c.args.account c.loop-row.end so.1.0 (omega (arith, so.1.1, few, c.loop-row.auto.row-index-end))
    (subst (λ ps. IsLeftOf t c.args.account c.loop-row.end so.1.0 (map Row ps)) (drop_all i xs (omega (arith, c.loop-row-test.false))) so.1.2))
    so.0
