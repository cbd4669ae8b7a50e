use Rattle.std.proofs.Common.{◌<◌, All, length, sym, subst, ◌∙◌, arith}
use Rattle.std.proofs.lemmas.List.Elements.{All-push}
use Rattle.goo_store_changes.specs.Changes.{ChangeFits}
use Rattle.goo_store_changes.specs.declared.table_change.TableChange.TheVariants.{InsertPiece}
use Rattle.goo_store_plans.proofs.RowsGathered.{pushed}
use Rattle.goo_store_plans.proofs.edit_changes.push_inserts.Goals as goal

pub loop-row-preserved : goal.loop-row-preserved
loop-row-preserved c =
    let xs = c.args.rows.now in
    let i = c.loop-row.row-index in
    let low : i < length xs = omega (arith, c.loop-row-test.true) in
    record {
      items = pushed (λ x. InsertPiece x) c.loop-row.changes.items c.push.new.self.items xs i _ low c.in_ok-push.ensures.items ∙ c.loop-row.invariant.items;
      fits = λ all. subst (All ChangeFits) (sym c.in_ok-push.ensures.items) (All-push ChangeFits c.loop-row.changes.items _ (c.loop-row.invariant.fits all) (c.requires i _ low));
    }
