use Rattle.std.proofs.Common.{◌∷◌, [], ◌++◌, All, refl, ap, sym, subst, ◌∙◌}
use Rattle.std.proofs.lemmas.List.Elements.{All-cons, All-nil}
use Rattle.goo_store_changes.specs.Changes.{ChangeFits}
use Rattle.goo_store_changes.specs.declared.table_change.TableChange.TheVariants.{AddDeclaration}
use Rattle.goo_store_plans.proofs.new_declarations.begin.Goals as goal

pub returns-clause-begins : goal.returns-clause-begins
returns-clause-begins c = record {
  row = c.in_ok-row.row;
  progress = c.in_ok-progress.progress;
  changes = c.in_ok-push-2.ensures.items ∙ ap (λ cs. cs ++ c.in_ok-progress.progress ∷ []) (c.in_ok-push.ensures.items ∙ ap (λ cs. cs ++ AddDeclaration c.in_ok-row.row ∷ []) c.new-changes.ensures.items);
  added = c.new-added.ensures.items;
  next = refl;
  id = c.in_ok-row.ensures.id;
  states = c.in_ok-row.ensures.states;
  reads_row = c.in_ok-row.ensures.reads;
  sets = c.in_ok-progress.ensures.sets;
}

pub returns-clause-fits : goal.returns-clause-fits
returns-clause-fits c =
    subst (All ChangeFits) (sym (c.in_ok-push-2.ensures.items ∙ ap (λ cs. cs ++ c.in_ok-progress.progress ∷ []) (c.in_ok-push.ensures.items ∙ ap (λ cs. cs ++ AddDeclaration c.in_ok-row.row ∷ []) c.new-changes.ensures.items)))
    (All-cons ChangeFits (AddDeclaration c.in_ok-row.row) (c.in_ok-progress.progress ∷ []) c.in_ok-row.ensures.fits (All-cons ChangeFits c.in_ok-progress.progress [] c.in_ok-progress.ensures.fits (All-nil ChangeFits)))
