-- The registration of a device that a JSON value states is within its limits.
use Rattle.std.proofs.Common.{◌≡◌, ◌+◌, ℕ, ℤ, List, codes, Ok, subst}
use Rattle.std.specs.Prelude.{is_some}
use Rattle.serde_json.specs.Data.{Data}
use Rattle.serde_json.specs.Find.{get, as_object}
use Rattle.goo_types.specs.Codes.{name_reading, country_reading, tech_reading, source_reading}
use Rattle.goo_types.specs.Gsrn.{gsrn_reading}
use Rattle.goo_types.specs.Day.{day_reading}
use Rattle.goo_types.specs.Carrier.{carrier_reading}
use Rattle.goo_types.specs.Support.{support_reading}
use Rattle.goo_types.specs.declared.command.RegisterDevice.{RegisterDevice}
use Rattle.goo_notice.specs.RegisterDevice.{IsRegisterDevice, device_of_members, carrier_text, members_with, register_device_of}
use Rattle.goo_notice_json.specs.Members.{of_size, string_at, integer_at}
use Rattle.goo_notice_json.specs.Fields.{as_field, integer_in}
use Rattle.goo_notice_json.proofs.LimitLemmas.{IsDay-reading}
use Rattle.goo_notice_json.proofs.FieldLimits.{bind_ok, field_ok, ok_same, within_limits, name_again, country_again, tech_again, source_again, gsrn_again}

limits : (account capacity_w : ℤ) (carrier commissioned country device site source support tech : List ℕ) (c : RegisterDevice)
    → device_of_members account capacity_w carrier commissioned country device site source support tech ≡ Ok c → IsRegisterDevice c
limits account capacity_w carrier commissioned country device site source support tech c e =
    let a0 = bind_ok (as_field (gsrn_reading device)) _ c e in
    let a1 = bind_ok (integer_in 1 999999999 account) _ c a0.2 in
    let a2 = bind_ok (as_field (country_reading country)) _ c a1.2 in
    let a3 = bind_ok (as_field (name_reading site)) _ c a2.2 in
    let a4 = bind_ok (as_field (tech_reading tech)) _ c a3.2 in
    let a5 = bind_ok (as_field (source_reading source)) _ c a4.2 in
    let a6 = bind_ok (integer_in 1 100000000000 capacity_w) _ c a5.2 in
    let a7 = bind_ok (as_field (day_reading commissioned)) _ c a6.2 in
    let a8 = bind_ok (as_field (support_reading support)) _ c a7.2 in
    let a9 = bind_ok (as_field (carrier_reading carrier)) _ c a8.2 in
    subst (λ x. IsRegisterDevice x) (ok_same _ c a9.2) (record {
      device = gsrn_again device a0.0 (field_ok (gsrn_reading device) a0.0 a0.1);
      account = within_limits 1 999999999 account a1.0 a1.1;
      country = country_again country a2.0 (field_ok (country_reading country) a2.0 a2.1);
      site = name_again site a3.0 (field_ok (name_reading site) a3.0 a3.1);
      tech = tech_again tech a4.0 (field_ok (tech_reading tech) a4.0 a4.1);
      source = source_again source a5.0 (field_ok (source_reading source) a5.0 a5.1);
      capacity_w = within_limits 1 100000000000 capacity_w a6.0 a6.1;
      commissioned = IsDay-reading commissioned a7.0 (field_ok (day_reading commissioned) a7.0 a7.1);
    })

pub register_device : (others : ℕ) (d : Data) (c : RegisterDevice) → register_device_of others d ≡ Ok c → IsRegisterDevice c
unfolding register_device_of
register_device others d c e =
    let a0 = bind_ok (of_size (members_with (is_some (get (codes "carrier") d)) + others) (as_object d)) _ c e in
    let a1 = bind_ok (integer_at (codes "account") d) _ c a0.2 in
    let a2 = bind_ok (integer_at (codes "capacity_w") d) _ c a1.2 in
    let k = bind_ok (carrier_text (is_some (get (codes "carrier") d)) d) _ c a2.2 in
    let a3 = bind_ok (string_at (codes "commissioned") d) _ c k.2 in
    let a4 = bind_ok (string_at (codes "country") d) _ c a3.2 in
    let a5 = bind_ok (string_at (codes "device") d) _ c a4.2 in
    let a6 = bind_ok (string_at (codes "site") d) _ c a5.2 in
    let a7 = bind_ok (string_at (codes "source") d) _ c a6.2 in
    let a8 = bind_ok (string_at (codes "support") d) _ c a7.2 in
    let a9 = bind_ok (string_at (codes "tech") d) _ c a8.2 in
    limits a1.0 a2.0 k.0 a3.0 a4.0 a5.0 a6.0 a7.0 a8.0 a9.0 c a9.2
