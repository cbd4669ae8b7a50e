-- That the devices and lots of carriers are there, judged over what was read, is what the tables ask for.
use Rattle.std.proofs.Common.{◌≡◌, ◌&&◌, ℕ, pos, List, map, sym, ap, ◌∙◌}
use Rattle.std.specs.List.{list_all, list_any}
use Rattle.std.specs.Ordering.{eq_by_cmp, int_eq, nat_cmp}
use Rattle.sqlite_keyed.specs.Keyed.{has_key}
use Rattle.sqlite_keyed.proofs.SliceLemmas.{any_is_found}
use Rattle.sqlite_typed.specs.Tests.{bytes_eq}
use Rattle.goo_spec.specs.State.{text_cmp}
use Rattle.goo_tables_rows.specs.Rows.{Tables, lot_key, device_in, lot_in, device_carrier_in, lot_carrier_in, bare_device, bare_lot}
use Rattle.goo_spec_tables.proofs.Known.{text_test, number_test}
use Rattle.goo_store_open.specs.Found.{AreOf, values}
use Rattle.goo_store_open.specs.declared.finding.Found.{Found}
use Rattle.goo_store_rules.specs.Keeping.{has_its_carriers}
use Rattle.goo_store_rules.specs.WellKept.{has_device, has_lot}
use Rattle.goo_store_rules.proofs.EachRow.{list_any-map}
use Rattle.goo_store_rules.proofs.KeptValues.{rows_same, kept_same}

module _ (t : Tables) (x : Found) (are : AreOf t x) where
  a_device : (q : List ℕ) → has_device (map device_in x.rows.production.devices.items) q ≡ list_any (λ d. bytes_eq d.1.gsrn q) t.devices
  a_device q =
      ap (λ ds. has_device ds q) are.devices ∙ list_any-map (λ d. eq_by_cmp text_cmp q d.gsrn) bare_device (values t.devices) ∙ list_any-map (λ d. eq_by_cmp text_cmp q d.gsrn) (λ k. k.1) t.devices
      ∙ (λ i. list_any (λ d. sym (text_test d.1.gsrn q) i) t.devices)

  a_lot : (id : ℕ) → has_lot (map lot_in x.rows.production.lots.items) id ≡ has_key lot_key t.lots (pos id)
  a_lot id =
      ap (λ ls. has_lot ls id) are.lots ∙ list_any-map (λ l. eq_by_cmp nat_cmp id l.id) bare_lot t.lots ∙ (λ i. list_any (λ l. sym (number_test l.id id) i) t.lots)
      ∙ any_is_found (λ l. int_eq (lot_key l) (pos id)) t.lots

  pub carrier_rule : has_its_carriers x ≡ (list_all (λ c. list_any (λ d. bytes_eq d.1.gsrn c.1.gsrn) t.devices) t.device_carriers && list_all (λ c. has_key lot_key t.lots (pos c.lot)) t.lot_carriers)
  carrier_rule =
      let devices = kept_same (λ c. has_device (map device_in x.rows.production.devices.items) c.gsrn) device_carrier_in x.rows.carriers.devices.items t.device_carriers are.device_carriers ∙ (λ i. list_all (λ c. a_device c.1.gsrn i) t.device_carriers) in
      let lots = rows_same (λ c. has_lot (map lot_in x.rows.production.lots.items) c.lot) lot_carrier_in x.rows.carriers.lots.items t.lot_carriers are.lot_carriers ∙ (λ i. list_all (λ c. a_lot c.lot i) t.lot_carriers) in
      λ i. devices i && lots i
