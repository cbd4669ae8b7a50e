use Rattle.std.proofs.Common.{◌∙◌, ap}
use Rattle.std.specs.FinMap.{keys}
use Rattle.goo_tables_rows.proofs.Results.{if_ok}
use Rattle.goo_spec_tables.proofs.DeviceLemmas.{keys_same}
use Rattle.goo_store.proofs.device_numbers.numbers_in.Goals as goal

pub returns-clause-value : goal.returns-clause-value
returns-clause-value c = if_ok c.sorted.result c.sorted.ensures.keys (λ numbers is. is ∙ keys_same c.in_ok-known.known c.sorted.ensures.ordered ∙ ap keys c.in_ok-known.ensures.noted)
