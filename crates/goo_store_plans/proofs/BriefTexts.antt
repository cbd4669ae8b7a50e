-- The texts of commands and of notices are short, since each of their values is.
use Rattle.std.proofs.Common.{◌≡◌, ℕ, ◌+◌, ◌*◌, ◌/◌, ◌%◌, ◌<◌, ◌≤◌, ◌^◌, List, [], ◌∷◌, ◌++◌, length, length-append, map, Bool, true, false, cond, nat_lt, Ok, Err, Result, Option, Some, None, All, refl, ap, sym, true≢false, arith}
use Rattle.std.specs.Prelude.{decimal}
use Rattle.std.specs.Char.{digit_char}
use Rattle.std.proofs.lemmas.Fmt.{length-decimal-le}
use Rattle.std.proofs.lemmas.List.Elements.{All-head, All-tail}
use Rattle.json.specs.Print.{escape_letter, escape_byte, escape, quoted}
use Rattle.serde_json.specs.Data.{Data, null, boolean, number, string, array, object, Items, no_items, item, Members, no_members, member}
use Rattle.serde_json.specs.View.{items_of}
use Rattle.serde_json.specs.Written.{number_text as text_of_number, compact_text, comma_if, items_text, members_text}
use Rattle.goo_types.specs.Carrier.{carrier_word}
use Rattle.goo_types.specs.Notice.{NoticeContents}
use Rattle.goo_types.specs.Range.{Numbers}
use Rattle.goo_types.specs.Support.{support_word}
use Rattle.goo_types.specs.Texts.{number_text}
use Rattle.goo_types.specs.declared.carrier.Carrier.{Carrier}
use Rattle.goo_types.specs.declared.carrier.Carrier.TheVariants as carrier
use Rattle.goo_types.specs.declared.command.Command.{Command}
use Rattle.goo_types.specs.declared.command.Command.TheVariants.{OpenHolder, OpenAccount, CloseAccount, RegisterDevice, Declare, Correct, Transfer, Cancel, Withdraw, Advance, AddPeer, Export, Import}
use Rattle.goo_types.specs.declared.command.RegisterDevice.{RegisterDevice as Registering}
use Rattle.goo_types.specs.declared.lot_fields.LotFields.{LotFields}
use Rattle.goo_types.specs.declared.part.Part.{Part}
use Rattle.goo_types.specs.declared.support.Support.{Support}
use Rattle.goo_types.specs.declared.support.Support.TheVariants as support
use Rattle.goo_types.proofs.DigitTextLemmas.{length-digits}
use Rattle.goo_notice.specs.Command.{command_data, command_text, IsCommand}
use Rattle.goo_notice.specs.Correct.{first_text, last_text}
use Rattle.goo_notice.specs.Law.{command_in}
use Rattle.goo_notice.specs.RegisterDevice.{device_data_with, IsRegisterDevice}
use Rattle.goo_notice_json.specs.Lot.{lot_data, IsStatedLot}
use Rattle.goo_notice_text.specs.Notice.{are_carried, version_of, notice_data, notice_text, IsStatedNotice}
use Rattle.goo_notice_text.specs.NoticeText.{notice_in}
use Rattle.goo_notice_json.specs.Parts.{part_data, IsStatedPart}
use Rattle.goo_notice_text.specs.declared.notice_fault.NoticeFault.{NoticeFault}
use Rattle.goo_notice.proofs.CommandLemmas.{commands_are_read_from_their_texts}
use Rattle.goo_notice_text.proofs.NoticeTextLemmas.{notices_are_read_from_their_texts}
use Rattle.goo_spec_tables.specs.Readable.{reads, is_notice_of}
use Rattle.goo_store_plans.proofs.ShortTexts.{holder_short, name_short, country_short, tech_short, source_short, gsrn_short, day_text_short}

-- ---- JSON text, by its strings and integers

byte_short : (x : ℕ) → length (escape_byte x) ≤ 6
unfolding escape_byte
byte_short x = go (nat_lt 0 (escape_letter x)) (nat_lt x 32)
  where
    go : (a b : Bool) → length (cond a (92 ∷ escape_letter x ∷ []) (cond b (92 ∷ 117 ∷ 48 ∷ 48 ∷ digit_char (x / 16) ∷ digit_char (x % 16) ∷ []) (x ∷ []))) ≤ 6
    go true b = omega arith
    go false true = omega arith
    go false false = omega arith

escape_short : (s : List ℕ) → length (escape s) ≤ 6 * length s
escape_short [] = omega arith
escape_short (x ∷ xs) = omega (arith, length-append (escape_byte x) (escape xs), byte_short x, escape_short xs)

quoted_short : (s : List ℕ) → length (quoted s) ≤ 6 * length s + 2
quoted_short s = omega (arith, length-append (escape s) (34 ∷ []), escape_short s)

comma_short : (later : Bool) → length (comma_if later) ≤ 1
comma_short true = omega arith
comma_short false = omega arith

-- as many bytes at most
abbrev mutual
  most : Data → ℕ
  most null = 4
  most (boolean b) = 5
  most (number n) = length (text_of_number n)
  most (string s) = 6 * length s + 2
  most (array ds) = items_most ds + 1
  most (object ms) = members_most ms + 1

  items_most : Items → ℕ
  items_most no_items = 1
  items_most (item d ds) = most d + items_most ds + 1

  members_most : Members → ℕ
  members_most no_members = 1
  members_most (member k d ms) = 6 * length k + most d + members_most ms + 4

mutual
  text_most : (d : Data) → length (compact_text d) ≤ most d
  text_most null = omega arith
  text_most (boolean true) = omega arith
  text_most (boolean false) = omega arith
  text_most (number n) = omega arith
  text_most (string s) = quoted_short s
  text_most (array ds) = omega (arith, items_text_most false ds)
  text_most (object ms) = omega (arith, members_text_most false ms)

  items_text_most : (later : Bool) (ds : Items) → length (items_text later ds) ≤ items_most ds
  items_text_most later no_items = omega arith
  items_text_most later (item d ds) =
      let back = compact_text d ++ items_text true ds in
      omega (arith, length-append (comma_if later) back, length-append (compact_text d) (items_text true ds), comma_short later, text_most d, items_text_most true ds)

  members_text_most : (later : Bool) (ms : Members) → length (members_text later ms) ≤ members_most ms
  members_text_most later no_members = omega arith
  members_text_most later (member k d ms) =
      let back = compact_text d ++ members_text true ms in
      let key = length-append (quoted k) (58 ∷ back) in
      let all = length-append (comma_if later) (quoted k ++ 58 ∷ back) in
      omega (arith, all, key, length-append (compact_text d) (members_text true ms), comma_short later, quoted_short k, text_most d, members_text_most true ms)

-- ---- the values

decimal_short : (n : ℕ) → n < 2 ^ 64 → length (decimal n) ≤ 20
decimal_short n low = length-decimal-le 20 n (omega arith) (omega (arith, low)) low

number_short : (n : ℕ) → length (number_text n) ≡ 14
unfolding number_text
number_short n = length-digits 14 n

first_short : (range : Option Numbers) → length (first_text range) ≤ 14
first_short None = omega arith
first_short (Some r) = omega (arith, number_short r.first)

last_short : (range : Option Numbers) → length (last_text range) ≤ 14
last_short None = omega arith
last_short (Some r) = omega (arith, number_short r.last)

word_short : (s : Support) → length (support_word s) ≤ 10
word_short support.None = omega arith
word_short support.Investment = omega arith
word_short support.Production = omega arith
word_short support.Both = omega arith

carrier_short : (c : Carrier) → length (carrier_word c) ≤ 15
carrier_short carrier.Electricity = omega arith
carrier_short carrier.Gas = omega arith
carrier_short carrier.Hydrogen = omega arith
carrier_short carrier.HeatingCooling = omega arith

lot_most : (b : Bool) (l : LotFields) → IsStatedLot l → most (lot_data b l) ≤ 2000
unfolding lot_data
lot_most true l is =
    let device = gsrn_short l.device (ap reads is.device) in
    let country = country_short l.country (ap reads is.country) in
    let site = name_short l.site (ap reads is.site) in
    let tech = tech_short l.tech (ap reads is.tech) in
    let source = source_short l.source (ap reads is.source) in
    let capacity = decimal_short l.capacity_w (omega (arith, is.capacity_w.1)) in
    let origin = decimal_short l.origin (omega (arith, is.origin.1)) in
    omega (arith, device, country, site, tech, source, capacity, origin, day_text_short l.commissioned, day_text_short l.first_day, day_text_short l.last_day, day_text_short l.issued_on, word_short l.support, carrier_short l.carrier)
lot_most false l is =
    let device = gsrn_short l.device (ap reads is.device) in
    let country = country_short l.country (ap reads is.country) in
    let site = name_short l.site (ap reads is.site) in
    let tech = tech_short l.tech (ap reads is.tech) in
    let source = source_short l.source (ap reads is.source) in
    let capacity = decimal_short l.capacity_w (omega (arith, is.capacity_w.1)) in
    let origin = decimal_short l.origin (omega (arith, is.origin.1)) in
    omega (arith, device, country, site, tech, source, capacity, origin, day_text_short l.commissioned, day_text_short l.first_day, day_text_short l.last_day, day_text_short l.issued_on, word_short l.support)

part_most : (b : Bool) (p : Part) → IsStatedPart p → most (part_data b p) ≤ 2500
unfolding part_data
part_most b p is = omega (arith, number_short p.range.first, number_short p.range.last, lot_most b p.lot is.lot)

parts_most : (b : Bool) (ps : List Part) → All IsStatedPart ps → items_most (items_of (map (part_data b) ps)) ≤ 2501 * length ps + 1
parts_most b [] are = omega arith
parts_most b (p ∷ ps) are = omega (arith, part_most b p (All-head IsStatedPart p ps are), parts_most b ps (All-tail IsStatedPart p ps are))

version_short : (b : Bool) → version_of b < 2 ^ 64
version_short true = omega arith
version_short false = omega arith

notice_most : (n : NoticeContents) → IsStatedNotice n → most (notice_data n) ≤ 299000
unfolding notice_data
notice_most n is =
    let account = decimal_short n.account (omega (arith, is.account.1)) in
    let addressee = decimal_short n.addressee (omega (arith, is.addressee.1)) in
    let serial = decimal_short n.number (omega (arith, is.number.1)) in
    let sender = decimal_short n.sender (omega (arith, is.sender.1)) in
    let version = decimal_short (version_of (are_carried n.parts)) (version_short (are_carried n.parts)) in
    omega (arith, account, addressee, serial, sender, version, parts_most (are_carried n.parts) n.parts is.parts, is.notice.count.1)

-- ---- notices and commands

notice_brief : (n : NoticeContents) → IsStatedNotice n → length (notice_text n) ≤ 300000
unfolding notice_text
notice_brief n is = omega (arith, text_most (notice_data n), notice_most n is)

device_most : (k : Carrier) (c : Registering) → IsRegisterDevice c → most (device_data_with k c) ≤ 300000
device_most carrier.Electricity c is =
    let device = gsrn_short c.device (ap reads is.device) in
    let country = country_short c.country (ap reads is.country) in
    let site = name_short c.site (ap reads is.site) in
    let tech = tech_short c.tech (ap reads is.tech) in
    let source = source_short c.source (ap reads is.source) in
    let capacity = decimal_short c.capacity_w (omega (arith, is.capacity_w.1)) in
    let account = decimal_short c.account (omega (arith, is.account.1)) in
    omega (arith, device, country, site, tech, source, capacity, account, day_text_short c.commissioned, word_short c.support)
device_most carrier.Gas c is =
    let device = gsrn_short c.device (ap reads is.device) in
    let country = country_short c.country (ap reads is.country) in
    let site = name_short c.site (ap reads is.site) in
    let tech = tech_short c.tech (ap reads is.tech) in
    let source = source_short c.source (ap reads is.source) in
    let capacity = decimal_short c.capacity_w (omega (arith, is.capacity_w.1)) in
    let account = decimal_short c.account (omega (arith, is.account.1)) in
    omega (arith, device, country, site, tech, source, capacity, account, day_text_short c.commissioned, word_short c.support)
device_most carrier.Hydrogen c is =
    let device = gsrn_short c.device (ap reads is.device) in
    let country = country_short c.country (ap reads is.country) in
    let site = name_short c.site (ap reads is.site) in
    let tech = tech_short c.tech (ap reads is.tech) in
    let source = source_short c.source (ap reads is.source) in
    let capacity = decimal_short c.capacity_w (omega (arith, is.capacity_w.1)) in
    let account = decimal_short c.account (omega (arith, is.account.1)) in
    omega (arith, device, country, site, tech, source, capacity, account, day_text_short c.commissioned, word_short c.support)
device_most carrier.HeatingCooling c is =
    let device = gsrn_short c.device (ap reads is.device) in
    let country = country_short c.country (ap reads is.country) in
    let site = name_short c.site (ap reads is.site) in
    let tech = tech_short c.tech (ap reads is.tech) in
    let source = source_short c.source (ap reads is.source) in
    let capacity = decimal_short c.capacity_w (omega (arith, is.capacity_w.1)) in
    let account = decimal_short c.account (omega (arith, is.account.1)) in
    omega (arith, device, country, site, tech, source, capacity, account, day_text_short c.commissioned, word_short c.support)

command_most : (c : Command) → IsCommand c → most (command_data c) ≤ 300000
command_most (OpenHolder c) is = omega (arith, holder_short c.holder (ap reads is.holder), name_short c.name (ap reads is.name))
command_most (OpenAccount c) is = omega (arith, holder_short c.holder (ap reads is.holder))
command_most (CloseAccount c) is = omega (arith, decimal_short c.account (omega (arith, is.account.1)))
command_most (RegisterDevice c) is = device_most c.carrier c is
command_most (Declare c) is =
    let gross = decimal_short c.gross (omega (arith, is.gross.1)) in
    let aux = decimal_short c.aux (omega (arith, is.aux.1)) in
    omega (arith, gsrn_short c.device (ap reads is.device), day_text_short c.first_day, day_text_short c.last_day, gross, aux)
command_most (Correct c) is =
    let less = decimal_short c.less (omega (arith, is.less.1)) in
    omega (arith, gsrn_short c.device (ap reads is.device), first_short c.range, last_short c.range, day_text_short c.first_day, less, name_short c.reason (ap reads is.reason))
command_most (Transfer c) is =
    let giver = decimal_short c.giver (omega (arith, is.giver.1)) in
    let taker = decimal_short c.taker (omega (arith, is.taker.1)) in
    omega (arith, number_short c.range.first, number_short c.range.last, giver, taker)
command_most (Cancel c) is =
    let account = decimal_short c.account (omega (arith, is.account.1)) in
    let beneficiary = name_short c.beneficiary (ap reads is.beneficiary) in
    omega (arith, account, beneficiary, number_short c.range.first, number_short c.range.last, day_text_short c.use_first, day_text_short c.use_last)
command_most (Withdraw c) is = omega (arith, number_short c.range.first, number_short c.range.last, name_short c.reason (ap reads is.reason))
command_most (Advance c) is = omega (arith, day_text_short c.day)
command_most (AddPeer c) is = omega (arith, decimal_short c.peer (omega (arith, is.peer.1)))
command_most (Export c) is =
    let account = decimal_short c.account (omega (arith, is.account.1)) in
    let giver = decimal_short c.giver (omega (arith, is.giver.1)) in
    let peer = decimal_short c.peer (omega (arith, is.peer.1)) in
    omega (arith, number_short c.range.first, number_short c.range.last, account, giver, peer)
command_most (Import c) is = omega (arith, notice_most c.notice is)

command_brief : (c : Command) → IsCommand c → length (command_text c) ≤ 300000
unfolding command_text
command_brief c is = omega (arith, text_most (command_data c), command_most c is)

-- ---- what rows keep of them

-- a body that is read as a notice
pub body_brief : (sender serial : ℕ) (body : List ℕ) → is_notice_of sender serial (notice_in body) ≡ true → length body ≤ 300000
body_brief sender serial body read = go (notice_in body) refl read
  where
    go : (r : Result NoticeContents NoticeFault) → notice_in body ≡ r → is_notice_of sender serial r ≡ true → length body ≤ 300000
    go (Err e) is read = absurd (true≢false (sym read))
    go (Ok n) is read = let stated = (notices_are_read_from_their_texts body n).0 is in omega (arith, ap length stated.1, notice_brief n stated.0)

-- bytes that state a command
pub stored_brief : (stored : List ℕ) (c : Command) → command_in stored ≡ Some c → length stored ≤ 300000
stored_brief stored c is = let stated = (commands_are_read_from_their_texts stored c).0 is in omega (arith, ap length stated.1, command_brief c stated.0)
