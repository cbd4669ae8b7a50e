use Rattle.std.proofs.Common.{◌∷◌, [], All, rules, sym, subst}
use Rattle.std.proofs.lemmas.List.Elements.{All-cons, All-nil}
use Rattle.goo_store_changes.specs.Changes.{ChangeFits}
use Rattle.goo_store_changes.specs.declared.table_change.TableChange.TheVariants.{AddCorrection}
use Rattle.goo_store_plans.proofs.new_corrections.lowering.Goals as goal

pub returns-clause-lowers : goal.returns-clause-lowers
returns-clause-lowers c = record {
  row = c.in_ok-row.row;
  progress = c.in_ok-progress.progress;
  changes_are = search rules;
  id = c.in_ok-row.ensures.id;
  states = c.in_ok-row.ensures.states;
  reads_row = c.in_ok-row.ensures.reads;
  sets = c.in_ok-progress.ensures.sets;
}

pub returns-clause-fits : goal.returns-clause-fits
returns-clause-fits c =
    subst (All ChangeFits) (sym c.in_ok-vec.ensures.items)
    (All-cons ChangeFits (AddCorrection c.in_ok-row.row) (c.in_ok-progress.progress ∷ []) c.in_ok-row.ensures.fits (All-cons ChangeFits c.in_ok-progress.progress [] c.in_ok-progress.ensures.fits (All-nil ChangeFits)))
