use Rattle.std.proofs.Common.{◌∙◌, ap, sym}
use Rattle.goo_tables_rows.specs.Rows.{Meta}
use Rattle.goo_spec_tables.specs.States.{state_of}
use Rattle.goo_spec_tables.specs.Texts.{day_of}
use Rattle.goo_store.proofs.registry_row.meta_in_row.Goals as goal

pub returns-clause-value : goal.returns-clause-value
unfolding state_of
returns-clause-value c t same i = record {
  code = (c.in_ok-code.ensures.value ∙ ap (λ (m : Meta). m.code) (sym same)) i;
  today = (c.in_ok-today.ensures.value ∙ ap day_of c.deref.ensures ∙ ap (λ (m : Meta). day_of m.today) (sym same)) i;
  counters = c.in_ok-counters.ensures.value t same i;
}
