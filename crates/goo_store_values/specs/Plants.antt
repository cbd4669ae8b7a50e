-- What rows state of a plant.
use Rattle.std.specs.Prelude.{◌≡◌}
use Rattle.goo_tables_rows.specs.Rows as row
use Rattle.goo_store_values.specs.declared.plants.Plant.{Plant}
use Rattle.goo_spec_tables.specs.Texts.{day_of, support_of}

-- column by column
pub record IsPlantOf (p : row.Plant) (x : Plant) : Type 0 where
  pub country : x.country ≡ p.country
  pub site : x.site ≡ p.site
  pub tech : x.tech ≡ p.tech
  pub source : x.source ≡ p.source
  pub capacity_w : x.capacity_w ≡ p.capacity_w
  pub commissioned : x.commissioned ≡ day_of p.commissioned
  pub support : x.support ≡ support_of p.support
