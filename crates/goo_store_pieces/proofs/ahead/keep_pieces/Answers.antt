use Rattle.std.proofs.Common.{◌≡◌, ◌<◌, ◌+◌, ◌∷◌, drop, map, length, ap, refl, sym, subst, ◌∙◌, arith}
use Rattle.std.proofs.lemmas.List.{drop_all, drop_more}
use Rattle.std.proofs.lemmas.List.Elements.{All-nil}
use Rattle.goo_store_pieces.specs.Ahead.{AreAhead}
use Rattle.goo_store_pieces.specs.declared.ahead.Ahead.TheVariants.{Whole}
use Rattle.goo_store_pieces.proofs.Pages.{IsLeftOf, ends, goes, whole_left}
use Rattle.goo_store_pieces.proofs.ahead.keep_pieces.Goals as goal

pub loop-piece-init : goal.loop-piece-init
loop-piece-init c t page = (subst (AreAhead t) (sym c.clear.ensures.items) (All-nil _), (256, refl, whole_left t c.args.account c.args.after c.args.page.now page))

pub loop-piece-preserved : goal.loop-piece-preserved
loop-piece-preserved c t page =
    let xs = c.args.page.now in
    let i = c.loop-piece.piece-index in
    let row = c.piece-item.result in
    let so = c.loop-piece.invariant t page in
    let low : i < length xs = omega (arith, c.loop-piece-test.true) in
    let split : drop i xs ≡ row ∷ drop (i + 1) xs = drop_more xs i row low ∙ ap (λ r. r ∷ drop (i + 1) xs) (sym c.piece-item.is) in
    let step = goes t c.args.account c.loop-piece.end so.1.0 (Whole row) (map Whole (drop (i + 1) xs)) (subst (λ ps. IsLeftOf t c.args.account c.loop-piece.end so.1.0 (map Whole ps)) split so.1.2) in (
      c.keep_after.ensures t step.next so.0,
      (step.fewer, omega (arith, step.counts, so.1.1), subst (λ e. IsLeftOf t c.args.account e step.fewer (map Whole (drop (i + 1) xs))) (sym c.get-end.ensures.value) step.others),
    )

pub returns : goal.returns
returns c t page =
    let xs = c.args.page.now in
    let i = c.loop-piece.piece-index in
    let so = c.loop-piece.invariant t page in
    c.keep_end.ensures t
    (λ few. ends t c.args.account c.loop-piece.end so.1.0 (omega (arith, so.1.1, few, c.loop-piece.auto.piece-index-end))
    (subst (λ ps. IsLeftOf t c.args.account c.loop-piece.end so.1.0 (map Whole ps)) (drop_all i xs (omega (arith, c.loop-piece-test.false))) so.1.2))
    so.0
