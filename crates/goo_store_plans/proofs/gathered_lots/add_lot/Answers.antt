use Rattle.std.proofs.Common.{All, sym, subst}
use Rattle.std.proofs.lemmas.List.Elements.{All-push}
use Rattle.goo_store_changes.specs.Changes.{ChangeFits}
use Rattle.goo_store_changes.specs.declared.table_change.TableChange.TheVariants.{AddLot}
use Rattle.goo_store_plans.proofs.gathered_lots.add_lot.Goals as goal

pub returns-clause-fits : goal.returns-clause-fits
returns-clause-fits c all = subst (All ChangeFits) (sym c.in_ok-push.ensures.items) (All-push ChangeFits c.args.gathered.now.changes.items (AddLot c.in_ok-row.row) all c.in_ok-row.ensures.fits)
