-- Rows that can be read are small, since the texts that their readers accept are short.
use Rattle.std.proofs.Common.{◌≡◌, ℕ, ◌≤◌, List, true, length, IsTrue, Option, Some, None, arith}
use Rattle.std.specs.Prelude.{All}
use Rattle.std.specs.List.{list_all}
use Rattle.sqlite.specs.Order.{bytes}
use Rattle.sqlite.specs.Ops.{fits_i64}
use Rattle.sqlite.specs.declared.types.Value.TheVariants.{Text}
use Rattle.sqlite_keyed.proofs.RuleLemmas.{first_of_both, second_of_both}
use Rattle.sqlite_typed.specs.Columns.{or_null}
use Rattle.goo_types.specs.Carrier.{carrier_reading}
use Rattle.goo_types.specs.Codes.{holder_reading, name_reading, country_reading, tech_reading, source_reading}
use Rattle.goo_types.specs.Day.{day_reading, months_after}
use Rattle.goo_types.specs.Gsrn.{gsrn_reading}
use Rattle.goo_types.specs.declared.command.Command.{Command}
use Rattle.goo_notice.specs.Law.{command_in}
use Rattle.goo_notice_text.specs.NoticeText.{notice_in}
use Rattle.goo_tables_rows.specs.Refused.{IsSmall, CanBeKept}
use Rattle.goo_tables_rows.specs.Rows.{Kept, kept_key, Plant, Meta, meta_row, Holder, holder_row, Account, account_row, Device, device_row, DeviceCarrier, device_carrier_row, Declaration, declaration_row, Lot, Receipt, receipt_row, Cancellation, cancellation_row, Withdrawal, withdrawal_row, Correction, correction_row, NoticeOut, notice_out_row, NoticeIn, notice_in_row}
use Rattle.goo_tables_accounts.specs.Changes.{IsSmallWord, IsSmallLot, progressed}
use Rattle.goo_spec_tables.specs.Kept.{IsKeptLot}
use Rattle.goo_spec_tables.specs.Readable.{reads, is_between, is_code, is_act, are_ends, is_holder, is_account, is_plant, is_device, is_declaration, is_lot, is_receipt, is_cancellation, is_withdrawal, is_correction, is_notice_of, is_notice_out, is_notice_in, is_other, is_maybe_other}
use Rattle.goo_spec_tables.specs.Texts.{day_of}
use Rattle.goo_store_rules.proofs.CanBeRead.{each_with}
use Rattle.goo_store_plans.proofs.BriefTexts.{body_brief, stored_brief}
use Rattle.goo_store_plans.proofs.ShortTexts.{holder_short, key_short, name_short, country_short, tech_short, source_short, gsrn_short, support_short, other_short, day_short, maybe_day_short, maybe_text_short}

-- ---- the registry's own row, holders and accounts

pub small_meta : (m : Meta) → reads (day_reading m.today) ≡ true → IsSmall (meta_row m)
small_meta m read = omega (arith, day_short m.today read)

pub small_holder : (k : Kept Holder) → is_holder k ≡ true → IsSmall (holder_row k)
small_holder k read = omega (arith, holder_short k.1.code (first_of_both _ _ read), name_short k.1.name (second_of_both (reads (holder_reading k.1.code)) _ read))

pub small_account : (a : Account) → is_account a ≡ true → IsSmall (account_row a)
small_account a read = omega (arith, holder_short a.holder (first_of_both _ _ (second_of_both (is_act a.number) _ read)))

-- ---- plants, and what has one

-- the texts of a plant are short
pub record IsShortPlant (p : Plant) : Type 0 where
  country : length p.country ≤ 2
  site : length p.site ≤ 64
  tech : length p.tech ≤ 7
  source : length p.source ≤ 9
  commissioned : length p.commissioned ≤ 10
  support : length p.support ≤ 10

short_plant : (p : Plant) → is_plant p ≡ true → IsShortPlant p
short_plant p read =
    let site = second_of_both (reads (country_reading p.country)) _ read in
    let tech = second_of_both (reads (name_reading p.site)) _ site in
    let source = second_of_both (reads (tech_reading p.tech)) _ tech in
    let capacity = second_of_both (reads (source_reading p.source)) _ source in
    let commissioned = second_of_both (is_between 1 100000000000 p.capacity_w) _ capacity in record {
      country = country_short p.country (first_of_both _ _ read);
      site = name_short p.site (first_of_both _ _ site);
      tech = tech_short p.tech (first_of_both _ _ tech);
      source = source_short p.source (first_of_both _ _ source);
      commissioned = day_short p.commissioned (first_of_both _ _ commissioned);
      support = support_short p.support (second_of_both (reads (day_reading p.commissioned)) _ commissioned);
    }

short_device : (k : Kept Device) → length k.1.gsrn ≤ 18 → IsShortPlant k.1.plant → length (bytes (or_null Text k.1.last_day)) ≤ 10 → IsSmall (device_row k)
short_device k gsrn plant day = omega (arith, gsrn, plant.country, plant.site, plant.tech, plant.source, plant.commissioned, plant.support, day)

-- the number and the plant of a device
pub short_parts : (k : Kept Device) → is_device k ≡ true → (length k.1.gsrn ≤ 18) × IsShortPlant k.1.plant
short_parts k read =
    let account = second_of_both (reads (gsrn_reading k.1.gsrn)) _ read in
    let plant = second_of_both (is_act k.1.account) _ account in
    (gsrn_short k.1.gsrn (first_of_both _ _ read), short_plant k.1.plant (first_of_both _ _ plant))

pub small_device : (k : Kept Device) → is_device k ≡ true → IsSmall (device_row k)
small_device k read =
    let account = second_of_both (reads (gsrn_reading k.1.gsrn)) _ read in
    let plant = second_of_both (is_act k.1.account) _ account in
    let day = second_of_both (is_plant k.1.plant) _ plant in
    let parts = short_parts k read in
    short_device k parts.0 parts.1 (maybe_day_short k.1.last_day (first_of_both _ _ day))

-- the row of a device's carrier
pub small_device_carrier : (k : Kept DeviceCarrier) → length k.1.gsrn ≤ 18 → is_other (carrier_reading k.1.carrier) ≡ true → IsSmall (device_carrier_row k)
small_device_carrier k gsrn read = omega (arith, gsrn, other_short k.1.carrier read)

-- devices that are there, with another last day and carry
pub progressed_kept : (last_day : List ℕ) (carry : ℕ) → reads (day_reading last_day) ≡ true → (ks : List (Kept Device)) → list_all is_device ks ≡ true → All (λ k. IsTrue (fits_i64 (kept_key k))) ks
    → All (λ k. CanBeKept (device_row (progressed last_day carry k))) ks
progressed_kept last_day carry ends ks read fit =
    each_with is_device (λ k. IsTrue (fits_i64 (kept_key k))) (λ k. CanBeKept (device_row (progressed last_day carry k)))
    (λ k low one. let parts = short_parts k one in (short_device (progressed last_day carry k) parts.0 parts.1 (day_short last_day ends), low)) ks fit read

pub small_declaration : (d : Declaration) → is_declaration d ≡ true → IsSmall (declaration_row d)
small_declaration d read =
    let first = second_of_both (reads (gsrn_reading d.device)) _ read in
    let last = second_of_both (reads (day_reading d.first_day)) _ first in
    omega (arith, gsrn_short d.device (first_of_both _ _ read), day_short d.first_day (first_of_both _ _ first), day_short d.last_day (first_of_both _ _ last))

-- the row of a lot's carrier
small_lot_word : (id : ℕ) (o : Option (List ℕ)) → is_maybe_other o ≡ true → IsSmallWord id o
small_lot_word id None read = tt
small_lot_word id (Some word) read = omega (arith, other_short word read)

-- a lot's row, and that of its carrier
pub small_lot : (l : Lot) → is_lot l ≡ true → IsKeptLot l → IsSmallLot l
small_lot l read kept =
    let device = second_of_both (is_code l.origin) _ read in
    let plant = second_of_both (reads (gsrn_reading l.device)) _ device in
    let first = second_of_both (is_plant l.plant) _ plant in
    let last = second_of_both (reads (day_reading l.first_day)) _ first in
    let short = short_plant l.plant (first_of_both _ _ plant) in
    let begins = day_short l.first_day (first_of_both _ _ first) in
    let over = day_short l.last_day (first_of_both _ _ last) in
    let issue = second_of_both (reads (day_reading l.last_day)) _ last in
    let issued = day_short l.issued_on (first_of_both _ _ issue) in
    let ends = maybe_text_short l.expires_on (months_after (day_of l.last_day) 18) kept.expires in (
      omega (arith, gsrn_short l.device (first_of_both _ _ device), short.country, short.site, short.tech, short.source, short.commissioned, short.support, begins, over, issued, ends),
      small_lot_word l.id l.carrier (second_of_both (reads (day_reading l.issued_on)) _ issue),
    )

-- ---- acts, receipts and notices

pub small_cancellation : (c : Cancellation) → is_cancellation c ≡ true → IsSmall (cancellation_row c)
small_cancellation c read =
    let account = second_of_both (is_act c.number) _ read in
    let ends = second_of_both (is_act c.account) _ account in
    let name = second_of_both (are_ends c.first c.last) _ ends in
    let first = second_of_both (reads (name_reading c.beneficiary)) _ name in
    let last = second_of_both (reads (day_reading c.use_first)) _ first in
    omega (arith, name_short c.beneficiary (first_of_both _ _ name), day_short c.use_first (first_of_both _ _ first), day_short c.use_last (first_of_both _ _ last), day_short c.day (second_of_both (reads (day_reading c.use_last)) _ last))

pub small_withdrawal : (w : Withdrawal) → is_withdrawal w ≡ true → IsSmall (withdrawal_row w)
small_withdrawal w read =
    let ends = second_of_both (is_act w.number) _ read in
    let name = second_of_both (are_ends w.first w.last) _ ends in
    omega (arith, name_short w.reason (first_of_both _ _ name), day_short w.day (second_of_both (reads (name_reading w.reason)) _ name))

pub small_correction : (c : Correction) → is_correction c ≡ true → IsSmall (correction_row c)
small_correction c read =
    let first = second_of_both (reads (gsrn_reading c.device)) _ read in
    omega (arith, gsrn_short c.device (first_of_both _ _ read), day_short c.first_day (first_of_both _ _ first))

pub small_receipt : (k : Kept Receipt) (c : Command) → is_receipt k ≡ true → command_in k.1.command ≡ Some c → IsSmall (receipt_row k)
small_receipt k c read states =
    let key = second_of_both (reads (holder_reading k.1.caller)) _ read in
    omega (arith, stored_brief k.1.command c states, holder_short k.1.caller (first_of_both _ _ read), key_short k.1.key (first_of_both _ _ key))

pub small_notice_out : (own : ℕ) (n : NoticeOut) → is_notice_out own n ≡ true → IsSmall (notice_out_row n)
small_notice_out own n read =
    let is_of : is_notice_of own n.number (notice_in n.body) ≡ true = second_of_both (is_act n.account) _ (second_of_both (is_act n.number) _ read) in
    omega (arith, body_brief own n.number n.body is_of)

pub small_notice_in : (k : Kept NoticeIn) → is_notice_in k ≡ true → IsSmall (notice_in_row k)
small_notice_in k read = omega (arith, body_brief k.1.sender k.1.number k.1.body read)
