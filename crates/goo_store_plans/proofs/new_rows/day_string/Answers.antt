use Rattle.std.proofs.Common.{◌∙◌, ap}
use Rattle.goo_types.specs.Day.{day_reading}
use Rattle.goo_types.proofs.DayLemmas.{day_reading-day_text}
use Rattle.goo_tables_rows.proofs.Results.{if_ok}
use Rattle.goo_spec_tables.specs.Readable.{reads}
use Rattle.goo_spec_tables.specs.Texts.{day_of}
use Rattle.goo_spec_tables.proofs.Known.{day_back}
use Rattle.goo_store_plans.proofs.new_rows.day_string.Goals as goal

pub returns : goal.returns
returns c =
    let written = c.as_str.ensures.value ∙ c.text.ensures.text in
    let day = c.args.day in
    let valid = c.text.ensures.limit in
    record {
      states = if_ok c.from_str.result c.from_str.ensures.ok (λ text is. ap day_of (is ∙ written) ∙ day_back day valid);
      reads = if_ok c.from_str.result c.from_str.ensures.ok (λ text is. ap (λ bytes. reads (day_reading bytes)) (is ∙ written) ∙ ap reads (day_reading-day_text day valid));
    }
