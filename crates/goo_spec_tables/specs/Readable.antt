-- Whether each value of a row is one that its reader or its limit accepts.
use Rattle.std.specs.Prelude.{ℕ, ◌==◌, ◌&&◌, ◌||◌, if◌then◌else◌, Bool, true, false, nat_le, List, Option, Some, None, Result, Ok, Err}
use Rattle.goo_types.specs.Carrier.{carrier_reading}
use Rattle.goo_types.specs.Codes.{holder_reading, name_reading, key_reading, country_reading, tech_reading, source_reading}
use Rattle.goo_types.specs.Day.{day_reading}
use Rattle.goo_types.specs.declared.carrier.Carrier.{Carrier}
use Rattle.goo_types.specs.declared.carrier.Carrier.TheVariants as carrier
use Rattle.goo_types.specs.Gsrn.{gsrn_reading}
use Rattle.goo_types.specs.Notice.{NoticeContents}
use Rattle.goo_types.specs.Number.{is_number, code_of}
use Rattle.goo_types.specs.Support.{support_reading}
use Rattle.goo_notice_text.specs.NoticeText.{notice_in}
use Rattle.goo_notice_text.specs.declared.notice_fault.NoticeFault.{NoticeFault}
use Rattle.goo_tables_rows.specs.Rows.{Kept, Plant, Meta, Holder, Account, Device, DeviceCarrier, Declaration, Lot, LotCarrier, Receipt, Cancellation, Withdrawal, Correction, NoticeOut, NoticeIn}
use Rattle.goo_tables_rows.specs.declared.peer.PeerRow.{PeerRow}
use Rattle.goo_tables_rows.specs.declared.piece.PieceRow.{PieceRow}

-- whether a reader accepts
abbrev pub reads : {X F : Type 0} → Result X F → Bool
reads (Ok x) = true
reads (Err e) = false

abbrev pub is_between : ℕ → ℕ → ℕ → Bool
is_between low high n = nat_le low n && nat_le n high

abbrev pub is_code : ℕ → Bool
is_code n = is_between 1 99 n

-- the number of an account or an act
abbrev pub is_act : ℕ → Bool
is_act n = is_between 1 999999999 n

-- the number of an act, or 0 for none
abbrev pub is_maybe_act : ℕ → Bool
is_maybe_act n = (n == 0) || is_act n

-- one above the last number of an account or an act is a next number too
abbrev pub is_next : ℕ → Bool
is_next n = is_between 1 1000000000 n

-- the first and the last number of a range
abbrev pub are_ends : ℕ → ℕ → Bool
are_ends first last = is_number first && (is_number last && (nat_le first last && (code_of first == code_of last)))

abbrev pub is_meta : Meta → Bool
is_meta m = is_code m.code && (reads (day_reading m.today) && (is_between 1 1000000000000 m.next_serial
    && (is_next m.next_account && (is_next m.next_cancellation && (is_next m.next_withdrawal && is_next m.next_notice)))))

abbrev pub is_holder : Kept Holder → Bool
is_holder k = reads (holder_reading k.1.code) && reads (name_reading k.1.name)

abbrev pub is_account : Account → Bool
is_account a = is_act a.number && (reads (holder_reading a.holder) && nat_le a.closed 1)

abbrev pub is_plant : Plant → Bool
is_plant p = reads (country_reading p.country) && (reads (name_reading p.site) && (reads (tech_reading p.tech) && (reads (source_reading p.source)
    && (is_between 1 100000000000 p.capacity_w && (reads (day_reading p.commissioned) && reads (support_reading p.support))))))

-- a day, where there is one
abbrev pub is_maybe_day : Option (List ℕ) → Bool
is_maybe_day None = true
is_maybe_day (Some text) = reads (day_reading text)

-- another carrier than electricity
abbrev pub is_other : {F : Type 0} → Result Carrier F → Bool
is_other (Ok carrier.Electricity) = false
is_other (Ok c) = true
is_other (Err e) = false

-- the word for another carrier than electricity, where there is one
abbrev pub is_maybe_other : Option (List ℕ) → Bool
is_maybe_other None = true
is_maybe_other (Some word) = is_other (carrier_reading word)

abbrev pub is_device : Kept Device → Bool
is_device k = reads (gsrn_reading k.1.gsrn) && (is_act k.1.account && (is_plant k.1.plant && (is_maybe_day k.1.last_day && (nat_le k.1.carry 999999 && is_maybe_other k.1.carrier))))

abbrev pub is_device_carrier : Kept DeviceCarrier → Bool
is_device_carrier k = reads (gsrn_reading k.1.gsrn) && is_other (carrier_reading k.1.carrier)

-- an amount of energy in a declaration
abbrev pub is_wh : ℕ → Bool
is_wh n = nat_le n 1000000000000000

abbrev pub is_declaration : Declaration → Bool
is_declaration d = reads (gsrn_reading d.device) && (reads (day_reading d.first_day) && (reads (day_reading d.last_day) && (is_wh d.gross && is_wh d.aux)))

abbrev pub is_lot : Lot → Bool
is_lot l = is_code l.origin && (reads (gsrn_reading l.device) && (is_plant l.plant && (reads (day_reading l.first_day) && (reads (day_reading l.last_day) && (reads (day_reading l.issued_on) && is_maybe_other l.carrier)))))

abbrev pub is_lot_carrier : LotCarrier → Bool
is_lot_carrier c = is_other (carrier_reading c.carrier)

-- held and expired certificates name no act, all others do
abbrev pub names_act : ℕ → ℕ → Bool
names_act kind act = if (kind == 1) || (kind == 3) then act == 0 else (is_between 2 5 kind && is_act act)

abbrev pub is_piece : PieceRow → Bool
is_piece p = are_ends p.first p.last && (is_act p.account && names_act p.kind p.act)

abbrev pub is_peer : Kept PeerRow → Bool
is_peer k = is_code k.1.code

-- the numbers of a reply, by its kind; 0 where one is unused
abbrev pub is_reply : ℕ → ℕ → ℕ → ℕ → Bool
is_reply kind n1 n2 n3 =
    if kind == 1 then (n1 == 0) && ((n2 == 0) && (n3 == 0))
    else (if kind == 2 then is_act n1 && ((n2 == 0) && (n3 == 0))
    else (if kind == 3 then nat_le n1 999999 && (((n2 == 0) && (n3 == 0)) || are_ends n2 n3)
    else (if kind == 4 then (n2 == 0) && (n3 == 0)
    else (if kind == 5 then is_act n1 && (n3 == 0)
    else (if kind == 6 then is_act n1 && (n3 == 0)
    else (if kind == 7 then (n2 == 0) && (n3 == 0)
    else (if kind == 8 then is_act n1 && (n3 == 0)
    else (if kind == 9 then (n2 == 0) && (n3 == 0)
    else (if kind == 10 then nat_le n1 999999 && is_maybe_act n3 else false)))))))))

abbrev pub is_receipt : Kept Receipt → Bool
is_receipt k = reads (holder_reading k.1.caller) && (reads (key_reading k.1.key) && is_reply k.1.kind k.1.n1 k.1.n2 k.1.n3)

abbrev pub is_cancellation : Cancellation → Bool
is_cancellation c = is_act c.number && (is_act c.account && (are_ends c.first c.last && (reads (name_reading c.beneficiary)
    && (reads (day_reading c.use_first) && (reads (day_reading c.use_last) && reads (day_reading c.day))))))

abbrev pub is_withdrawal : Withdrawal → Bool
is_withdrawal w = is_act w.number && (are_ends w.first w.last && (reads (name_reading w.reason) && reads (day_reading w.day)))

abbrev pub is_correction : Correction → Bool
is_correction c = reads (gsrn_reading c.device) && (reads (day_reading c.first_day) && (is_wh c.less && is_maybe_act c.withdrawal))

-- a body is a notice of this sender and number
abbrev pub is_notice_of : ℕ → ℕ → Result NoticeContents NoticeFault → Bool
is_notice_of sender number (Err e) = false
is_notice_of sender number (Ok n) = (n.sender == sender) && (n.number == number)

abbrev pub is_notice_out : ℕ → NoticeOut → Bool
is_notice_out own n = is_act n.number && (is_act n.account && is_notice_of own n.number (notice_in n.body))

abbrev pub is_notice_in : Kept NoticeIn → Bool
is_notice_in k = is_notice_of k.1.sender k.1.number (notice_in k.1.body)
