use Rattle.std.proofs.Common.{◌≡◌, ◌<◌, [], ◌∷◌, ◌++◌, All, length, get_or, ap, sym, subst, ◌∙◌, arith}
use Rattle.std.proofs.lemmas.List.Elements.{All-push}
use Rattle.goo_store_changes.specs.Changes.{ChangeFits}
use Rattle.goo_store_changes.specs.declared.table_change.TableChange.TheVariants.{DeletePiece}
use Rattle.goo_store_plans.proofs.RowsGathered.{pushed}
use Rattle.goo_store_plans.proofs.edit_changes.push_deletes.Goals as goal

pub loop-first-preserved : goal.loop-first-preserved
loop-first-preserved c =
    let xs = c.args.firsts.now in
    let i = c.loop-first.first-index in
    let low : i < length xs = omega (arith, c.loop-first-test.true) in
    let number : c.get.result ≡ get_or xs i c.first-item.result = c.get.ensures.value ∙ c.first-item.is in
    let small : c.get.result < 9223372036854775808 = omega (arith, c.get.ensures.limit.0) in
    record {
      items = pushed (λ k. DeletePiece k) c.loop-first.changes.items c.push.new.self.items xs i c.first-item.result low (c.in_ok-push.ensures.items ∙ ap (λ k. c.loop-first.changes.items ++ DeletePiece k ∷ []) number) ∙ c.loop-first.invariant.items;
      fits = λ all. subst (All ChangeFits) (sym c.in_ok-push.ensures.items) (All-push ChangeFits c.loop-first.changes.items (DeletePiece c.get.result) (c.loop-first.invariant.fits all) small);
    }
