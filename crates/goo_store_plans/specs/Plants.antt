-- What a row states of a plant that is registered.
use Rattle.std.specs.Prelude.{◌≡◌, ◌≤◌}
use Rattle.goo_types.specs.declared.command.RegisterDevice.{RegisterDevice}
use Rattle.goo_tables_rows.specs.Rows as row
use Rattle.goo_spec_tables.specs.Texts.{day_of, support_of}

-- the plant that a registration states, with its limits
pub record IsRegistered (p : row.Plant) (x : RegisterDevice) : Type 0 where
  pub country : p.country ≡ x.country
  pub site : p.site ≡ x.site
  pub tech : p.tech ≡ x.tech
  pub source : p.source ≡ x.source
  pub capacity_w : p.capacity_w ≡ x.capacity_w
  pub capacity_limit : p.capacity_w ≤ 100000000000
  pub commissioned : day_of p.commissioned ≡ x.commissioned
  pub support : support_of p.support ≡ x.support
