-- Tables whose values the readers accept can be read.
use Rattle.std.proofs.Common.{◌≡◌, ◌<◌, ◌^◌, ◌==◌, ◌&&◌, ◌||◌, ℕ, ℤ, pos, Bool, true, false, cond, nat_le, List, [], ◌∷◌, map, All, Option, Some, None, Result, Ok, Err, option_map, inl, inr, refl, sym, ap, ◌∙◌, arith, subst, IsUtf8, true≢false}
use Rattle.std.specs.List.{list_all}
use Rattle.std.specs.Ordering.{int_eq}
use Rattle.std.proofs.lemmas.Bool.{leb-true, eqb-true}
use Rattle.std.proofs.lemmas.Cmp.{int_eq_equiv}
use Rattle.std.proofs.lemmas.List.Elements.{All-nil, All-cons, All-head, All-tail, All-map}
use Rattle.sqlite.specs.Order.{Row}
use Rattle.sqlite.specs.Effect.{Database}
use Rattle.sqlite.specs.declared.types.Value.TheVariants.{Int, Text}
use Rattle.sqlite_keyed.specs.Keyed.{IsKeyedBy, get_by}
use Rattle.sqlite_keyed.proofs.KeyedLemmas.{none_past, same_int}
use Rattle.sqlite_keyed.proofs.RuleLemmas.{first_of_both, second_of_both}
use Rattle.sqlite_typed.specs.Columns.{or_null}
use Rattle.goo_types.specs.Day.{months_after}
use Rattle.goo_types.specs.Notice.{NoticeContents}
use Rattle.goo_types.specs.Texts.{day_text}
use Rattle.goo_types.proofs.DayLemmas.{IsUtf8-day_text}
use Rattle.goo_types.specs.Day.{CalendarDay}
use Rattle.goo_tables_rows.specs.Readable.{IsMaybeText, numbered_meta_readable, holder_readable, account_readable, device_readable, declaration_readable, lot_readable, piece_readable, peer_readable, receipt_readable, cancellation_readable, withdrawal_readable, notice_out_readable, notice_in_readable, correction_readable, device_carrier_readable, lot_carrier_readable}
use Rattle.goo_tables_rows.specs.Rows.{Tables, Kept, Plant, Meta, Holder, Account, Device, DeviceCarrier, Declaration, Lot, LotCarrier, lot_key, Receipt, Cancellation, Withdrawal, NoticeOut, NoticeIn, Correction, meta_columns, holder_columns, account_columns, device_columns, declaration_columns, lot_columns, piece_columns, peer_columns, receipt_columns, cancellation_columns, withdrawal_columns, notice_out_columns, notice_in_columns, correction_columns, device_carrier_columns, lot_carrier_columns}
use Rattle.goo_tables_rows.specs.Stands.{Stands}
use Rattle.goo_tables_rows.specs.declared.peer.PeerRow.{PeerRow}
use Rattle.goo_tables_rows.specs.declared.piece.PieceRow.{PieceRow}
use Rattle.goo_notice_text.specs.NoticeText.{notice_in}
use Rattle.goo_notice_text.proofs.NoticeTextLemmas.{notices_are_read_from_their_texts}
use Rattle.goo_spec_tables.specs.Kept.{AreKeptIn, AreKept, IsKeptLot}
use Rattle.goo_spec_tables.specs.Readable.{is_plant, is_meta, is_holder, is_account, is_device, is_declaration, is_lot, is_piece, is_peer, is_receipt, is_cancellation, is_withdrawal, is_correction, is_notice_out, is_notice_in, is_notice_of, is_maybe_other, is_device_carrier, is_lot_carrier, is_maybe_day, is_maybe_act, is_between, is_act, is_next, is_code, is_reply, names_act}
use Rattle.goo_spec_tables.specs.Texts.{day_of}
use Rattle.goo_store_open.specs.Found.{IsReadable}
use Rattle.goo_store_open.specs.Reading.{CanBeRead}
use Rattle.goo_store_rules.proofs.ReadTexts.{holder_text, name_text, key_text, country_text, tech_text, source_text, gsrn_text, day_text_utf8, support_text, carrier_text}

-- ---- numbers

act_small : (n : ℕ) → is_act n ≡ true → n < 2 ^ 32
act_small n h = let most = leb-true n 999999999 (second_of_both (nat_le 1 n) (nat_le n 999999999) h) in omega (arith, most)

next_small : (n : ℕ) → is_next n ≡ true → n < 2 ^ 32
next_small n h = let most = leb-true n 1000000000 (second_of_both (nat_le 1 n) (nat_le n 1000000000) h) in omega (arith, most)

code_small : (n : ℕ) → is_code n ≡ true → n < 2 ^ 32
code_small n h = let most = leb-true n 99 (second_of_both (nat_le 1 n) (nat_le n 99) h) in omega (arith, most)

one_small : (n : ℕ) → nat_le n 1 ≡ true → n < 2 ^ 32
one_small n h = let most = leb-true n 1 h in omega (arith, most)

equal_small : (n k : ℕ) → k < 2 ^ 32 → (n == k) ≡ true → n < 2 ^ 32
equal_small n k low is = let same = eqb-true n k is in omega (arith, same, low)

either : {P : Type 0} (b x y : Bool) → (b ≡ true → P) → (y ≡ true → P) → cond b x y ≡ true → P
either true x y here later h = here refl
either false x y here later h = later h

reply_small : (kind n1 n2 n3 : ℕ) → is_reply kind n1 n2 n3 ≡ true → kind < 2 ^ 32
reply_small kind n1 n2 n3 =
    either (kind == 1) _ _ (equal_small kind 1 (omega arith)) (either (kind == 2) _ _ (equal_small kind 2 (omega arith)) (either (kind == 3) _ _ (equal_small kind 3 (omega arith))
    (either (kind == 4) _ _ (equal_small kind 4 (omega arith)) (either (kind == 5) _ _ (equal_small kind 5 (omega arith)) (either (kind == 6) _ _ (equal_small kind 6 (omega arith))
    (either (kind == 7) _ _ (equal_small kind 7 (omega arith)) (either (kind == 8) _ _ (equal_small kind 8 (omega arith)) (either (kind == 9) _ _ (equal_small kind 9 (omega arith))
    (either (kind == 10) _ _ (equal_small kind 10 (omega arith)) (λ none. absurd (true≢false (sym none))))))))))))

or_cases : {P : Type 0} (a b : Bool) → (a ≡ true → P) → (b ≡ true → P) → a || b ≡ true → P
or_cases true b x y h = x refl
or_cases false b x y h = y h

maybe_small : (act : ℕ) → is_maybe_act act ≡ true → act < 2 ^ 32
maybe_small act = or_cases (act == 0) (is_act act) (equal_small act 0 (omega arith)) (act_small act)

kind_small : (kind act : ℕ) → names_act kind act ≡ true → (kind < 2 ^ 32) × (act < 2 ^ 32)
kind_small kind act = go ((kind == 1) || (kind == 3)) refl
  where
    go : (b : Bool) → ((kind == 1) || (kind == 3)) ≡ b → cond b (act == 0) (is_between 2 5 kind && is_act act) ≡ true → (kind < 2 ^ 32) × (act < 2 ^ 32)
    go true is h = (or_cases (kind == 1) (kind == 3) (equal_small kind 1 (omega arith)) (equal_small kind 3 (omega arith)) is, equal_small act 0 (omega arith) h)
    go false is h =
        let most = leb-true kind 5 (second_of_both (nat_le 2 kind) (nat_le kind 5) (first_of_both (is_between 2 5 kind) (is_act act) h)) in
        (omega (arith, most), act_small act (second_of_both (is_between 2 5 kind) (is_act act) h))

notice_small : (sender number : ℕ) (body : List ℕ) → is_notice_of sender number (notice_in body) ≡ true → (sender < 2 ^ 32) × (number < 2 ^ 32)
notice_small sender number body = go (notice_in body) refl
  where
    go : (r : Result NoticeContents _) → notice_in body ≡ r → is_notice_of sender number r ≡ true → (sender < 2 ^ 32) × (number < 2 ^ 32)
    go (Err e) is h = absurd (true≢false (sym h))
    go (Ok n) is h =
        let stated = ((notices_are_read_from_their_texts body n).0 is).0 in
        let first = eqb-true n.sender sender (first_of_both (n.sender == sender) (n.number == number) h) in
        let second = eqb-true n.number number (second_of_both (n.sender == sender) (n.number == number) h) in
        (omega (arith, stated.sender, first), omega (arith, stated.number, second))

-- ---- texts that may be missing

maybe_day : (o : Option (List ℕ)) → is_maybe_day o ≡ true → IsMaybeText (or_null Text o)
maybe_day None h = inl refl
maybe_day (Some t) h = inr (t, refl, day_text_utf8 t h)

maybe_carrier : (o : Option (List ℕ)) → is_maybe_other o ≡ true → IsMaybeText (or_null Text o)
maybe_carrier None h = inl refl
maybe_carrier (Some t) h = inr (t, refl, carrier_text t h)

maybe_written : (text : Option (List ℕ)) (day : Option CalendarDay) → text ≡ option_map day_text day → IsMaybeText (or_null Text text)
maybe_written None day is = inl refl
maybe_written (Some t) None is = absurd cc
maybe_written (Some t) (Some d) is = let same : day_text d ≡ t = cc in inr (t, refl, subst IsUtf8 same (IsUtf8-day_text d))

meta : (m : Meta) → m.version < 2 ^ 32 → is_meta m ≡ true → numbered_meta_readable (Int (pos 1) ∷ meta_columns m)
meta m small h = (
  omega arith,
  (1, refl),
  (m.version, refl, small),
  (m.code, refl, code_small m.code (search (h, first_of_both, second_of_both))),
  (m.today, refl, day_text_utf8 m.today (search (h, first_of_both, second_of_both))),
  (m.next_serial, refl),
  (m.next_account, refl, next_small m.next_account (search (h, first_of_both, second_of_both))),
  (m.next_cancellation, refl, next_small m.next_cancellation (search (h, first_of_both, second_of_both))),
  (m.next_withdrawal, refl, next_small m.next_withdrawal (search (h, first_of_both, second_of_both))),
  (m.next_notice, refl, next_small m.next_notice (search (h, first_of_both, second_of_both))),
)

holder : (k : Kept Holder) → is_holder k ≡ true → holder_readable (holder_columns k.1)
holder k h = (
  omega arith,
  (k.1.code, refl, holder_text k.1.code (search (h, first_of_both, second_of_both))),
  (k.1.name, refl, name_text k.1.name (search (h, first_of_both, second_of_both))),
)

account : (a : Account) → is_account a ≡ true → account_readable (account_columns a)
account a h = (
  omega arith,
  (a.number, refl, act_small a.number (search (h, first_of_both, second_of_both))),
  (a.holder, refl, holder_text a.holder (search (h, first_of_both, second_of_both))),
  (a.closed, refl, one_small a.closed (search (h, first_of_both, second_of_both))),
)

plant : (p : Plant) → is_plant p ≡ true → IsUtf8 p.country × IsUtf8 p.site × IsUtf8 p.tech × IsUtf8 p.source × IsUtf8 p.commissioned × IsUtf8 p.support
plant p h = (
  country_text p.country (search (h, first_of_both, second_of_both)),
  name_text p.site (search (h, first_of_both, second_of_both)),
  tech_text p.tech (search (h, first_of_both, second_of_both)),
  source_text p.source (search (h, first_of_both, second_of_both)),
  day_text_utf8 p.commissioned (search (h, first_of_both, second_of_both)),
  support_text p.support (search (h, first_of_both, second_of_both)),
)

device : (k : Kept Device) → is_device k ≡ true → device_readable (device_columns k.1)
device k h = (
  omega arith,
  (k.1.gsrn, refl, gsrn_text k.1.gsrn (search (h, first_of_both, second_of_both))),
  (k.1.account, refl, act_small k.1.account (search (h, first_of_both, second_of_both))),
  (
    omega arith,
    (k.1.plant.country, refl, (plant k.1.plant (search (h, first_of_both, second_of_both))).0),
    (k.1.plant.site, refl, (plant k.1.plant (search (h, first_of_both, second_of_both))).1),
    (k.1.plant.tech, refl, (plant k.1.plant (search (h, first_of_both, second_of_both))).2),
    (k.1.plant.source, refl, (plant k.1.plant (search (h, first_of_both, second_of_both))).3),
    (k.1.plant.capacity_w, refl),
    (k.1.plant.commissioned, refl, (plant k.1.plant (search (h, first_of_both, second_of_both))).4),
    (k.1.plant.support, refl, (plant k.1.plant (search (h, first_of_both, second_of_both))).5),
  ),
  maybe_day k.1.last_day (search (h, first_of_both, second_of_both)),
  (k.1.carry, refl),
  maybe_carrier k.1.carrier (search (h, first_of_both, second_of_both)),
)

declaration : (d : Declaration) → is_declaration d ≡ true → declaration_readable (declaration_columns d)
declaration d h = (
  omega arith,
  (d.id, refl),
  (d.device, refl, gsrn_text d.device (search (h, first_of_both, second_of_both))),
  (d.first_day, refl, day_text_utf8 d.first_day (search (h, first_of_both, second_of_both))),
  (d.last_day, refl, day_text_utf8 d.last_day (search (h, first_of_both, second_of_both))),
  (d.gross, refl),
  (d.aux, refl),
)

lot : (l : Lot) → IsKeptLot l → is_lot l ≡ true → lot_readable 0 (lot_columns l)
lot l kept h = (
  omega arith,
  (l.id, refl),
  (l.origin, refl, code_small l.origin (search (h, first_of_both, second_of_both))),
  (l.device, refl, gsrn_text l.device (search (h, first_of_both, second_of_both))),
  (
    omega arith,
    (l.plant.country, refl, (plant l.plant (search (h, first_of_both, second_of_both))).0),
    (l.plant.site, refl, (plant l.plant (search (h, first_of_both, second_of_both))).1),
    (l.plant.tech, refl, (plant l.plant (search (h, first_of_both, second_of_both))).2),
    (l.plant.source, refl, (plant l.plant (search (h, first_of_both, second_of_both))).3),
    (l.plant.capacity_w, refl),
    (l.plant.commissioned, refl, (plant l.plant (search (h, first_of_both, second_of_both))).4),
    (l.plant.support, refl, (plant l.plant (search (h, first_of_both, second_of_both))).5),
  ),
  (l.first_day, refl, day_text_utf8 l.first_day (search (h, first_of_both, second_of_both))),
  (l.last_day, refl, day_text_utf8 l.last_day (search (h, first_of_both, second_of_both))),
  maybe_written l.expires_on (months_after (day_of l.last_day) 18) kept.expires,
  (l.issued_on, refl, day_text_utf8 l.issued_on (search (h, first_of_both, second_of_both))),
  maybe_carrier l.carrier (search (h, first_of_both, second_of_both)),
)

piece : (p : PieceRow) → is_piece p ≡ true → piece_readable (piece_columns p)
piece p h = (
  omega arith,
  (p.first, refl),
  (p.last, refl),
  (p.lot, refl),
  (p.kind, refl, (kind_small p.kind p.act (search (h, first_of_both, second_of_both))).0),
  (p.account, refl, act_small p.account (search (h, first_of_both, second_of_both))),
  (p.act, refl, (kind_small p.kind p.act (search (h, first_of_both, second_of_both))).1),
)

peer : (k : Kept PeerRow) → is_peer k ≡ true → peer_readable (peer_columns k.1)
peer k h = (
  omega arith,
  (k.1.code, refl, code_small k.1.code h),
)

receipt : (k : Kept Receipt) → is_receipt k ≡ true → receipt_readable (receipt_columns k.1)
receipt k h = (
  omega arith,
  (k.1.caller, refl, holder_text k.1.caller (search (h, first_of_both, second_of_both))),
  (k.1.key, refl, key_text k.1.key (search (h, first_of_both, second_of_both))),
  (k.1.command, inr refl),
  (k.1.kind, refl, reply_small k.1.kind k.1.n1 k.1.n2 k.1.n3 (search (h, first_of_both, second_of_both))),
  (k.1.n1, refl),
  (k.1.n2, refl),
  (k.1.n3, refl),
)

cancellation : (c : Cancellation) → is_cancellation c ≡ true → cancellation_readable (cancellation_columns c)
cancellation c h = (
  omega arith,
  (c.number, refl, act_small c.number (search (h, first_of_both, second_of_both))),
  (c.account, refl, act_small c.account (search (h, first_of_both, second_of_both))),
  (c.first, refl),
  (c.last, refl),
  (c.beneficiary, refl, name_text c.beneficiary (search (h, first_of_both, second_of_both))),
  (c.use_first, refl, day_text_utf8 c.use_first (search (h, first_of_both, second_of_both))),
  (c.use_last, refl, day_text_utf8 c.use_last (search (h, first_of_both, second_of_both))),
  (c.day, refl, day_text_utf8 c.day (search (h, first_of_both, second_of_both))),
)

withdrawal : (w : Withdrawal) → is_withdrawal w ≡ true → withdrawal_readable (withdrawal_columns w)
withdrawal w h = (
  omega arith,
  (w.number, refl, act_small w.number (search (h, first_of_both, second_of_both))),
  (w.first, refl),
  (w.last, refl),
  (w.reason, refl, name_text w.reason (search (h, first_of_both, second_of_both))),
  (w.day, refl, day_text_utf8 w.day (search (h, first_of_both, second_of_both))),
)

correction : (c : Correction) → is_correction c ≡ true → correction_readable (correction_columns c)
correction c h = (
  omega arith,
  (c.id, refl),
  (c.device, refl, gsrn_text c.device (search (h, first_of_both, second_of_both))),
  (c.first_day, refl, day_text_utf8 c.first_day (search (h, first_of_both, second_of_both))),
  (c.less, refl),
  (c.withdrawal, refl, maybe_small c.withdrawal (search (h, first_of_both, second_of_both))),
)

device_carrier : (k : Kept DeviceCarrier) → is_device_carrier k ≡ true → device_carrier_readable (device_carrier_columns k.1)
device_carrier k h = (
  omega arith,
  (k.1.gsrn, refl, gsrn_text k.1.gsrn (search (h, first_of_both, second_of_both))),
  (k.1.carrier, refl, carrier_text k.1.carrier (search (h, first_of_both, second_of_both))),
)

lot_carrier : (c : LotCarrier) → is_lot_carrier c ≡ true → lot_carrier_readable (lot_carrier_columns c)
lot_carrier c h = (
  omega arith,
  (c.lot, refl),
  (c.carrier, refl, carrier_text c.carrier h),
)

notice_out : (own : ℕ) (n : NoticeOut) → is_notice_out own n ≡ true → notice_out_readable (notice_out_columns n)
notice_out own n h = (
  omega arith,
  (n.number, refl, act_small n.number (search (h, first_of_both, second_of_both))),
  (n.account, refl, act_small n.account (search (h, first_of_both, second_of_both))),
  (n.body, inl refl),
)

notice_in_row : (k : Kept NoticeIn) → is_notice_in k ≡ true → notice_in_readable (notice_in_columns k.1)
notice_in_row k h = (
  omega arith,
  (k.1.sender, refl, (notice_small k.1.sender k.1.number k.1.body h).0),
  (k.1.number, refl, (notice_small k.1.sender k.1.number k.1.body h).1),
  (k.1.body, inl refl),
)

-- ---- tables

each : {X : Type 0} (p : X → Bool) (P : Row → Type 0) (to_row : X → Row) → ((x : X) → p x ≡ true → P (to_row x)) → (xs : List X) → list_all p xs ≡ true → All P (map to_row xs)
each p P to_row so [] all = All-nil P
each p P to_row so (x ∷ xs) all = All-cons P (to_row x) (map to_row xs) (so x (first_of_both (p x) (list_all p xs) all)) (each p P to_row so xs (second_of_both (p x) (list_all p xs) all))

-- rows of which more is known, beside a test that all pass
pub each_with : {X : Type 0} (p : X → Bool) (K Q : X → Type 0) → ((x : X) → K x → p x ≡ true → Q x) → (xs : List X) → All K xs → list_all p xs ≡ true → All Q xs
each_with p K Q so [] known all = All-nil Q
each_with p K Q so (x ∷ xs) known all =
    All-cons Q x xs (so x (All-head K x xs known) (first_of_both (p x) (list_all p xs) all)) (each_with p K Q so xs (All-tail K x xs known) (second_of_both (p x) (list_all p xs) all))

-- what is kept of the lot under any number is kept of each lot
pub each_kept : (ls : List Lot) → IsKeyedBy lot_key ls → ((id : ℤ) (l : Lot) → get_by lot_key ls id ≡ Some l → IsKeptLot l) → All IsKeptLot ls
each_kept [] keyed kept = All-nil IsKeptLot
each_kept (x ∷ xs) keyed kept =
    All-cons IsKeptLot x xs (kept (lot_key x) x (ap (λ b. cond b (Some x) (get_by lot_key xs (lot_key x))) (int_eq_equiv.refl (lot_key x))))
    (each_kept xs keyed.1 (λ id l is. kept id l (go id l (int_eq (lot_key x) id) refl is)))
  where
    go : (id : ℤ) (l : Lot) (b : Bool) → int_eq (lot_key x) id ≡ b → get_by lot_key xs id ≡ Some l → cond b (Some x) (get_by lot_key xs id) ≡ Some l
    go id l false e is = is
    go id l true e is =
        let none : get_by lot_key xs id ≡ None = ap (get_by lot_key xs) (sym (same_int (lot_key x) id e)) ∙ none_past lot_key xs (lot_key x) keyed.0 in
        let bad : Some l ≡ None = sym is ∙ none in
        absurd cc

-- tables that keep the rules can be read
pub kept_can_be_read_in : (number : ℕ) → number < 2 ^ 32 → (db : Database) (t : Tables) → Stands db t → AreKeptIn number t → CanBeRead t
kept_can_be_read_in number small db t stands kept =
    let r = kept.readable in
    record {
      meta = All-cons numbered_meta_readable (Int (pos 1) ∷ meta_columns t.meta) [] (meta t.meta (subst (λ n. n < 2 ^ 32) (sym r.version) small) r.meta) (All-nil numbered_meta_readable);
      holders = each is_holder holder_readable (λ k. holder_columns k.1) holder t.holders r.holders;
      accounts = each is_account account_readable account_columns account t.accounts r.accounts;
      devices = each is_device device_readable (λ k. device_columns k.1) device t.devices r.devices;
      declarations = each is_declaration declaration_readable declaration_columns declaration t.declarations r.declarations;
      lots = All-map (lot_readable 0) lot_columns t.lots (each_with is_lot IsKeptLot (λ l. lot_readable 0 (lot_columns l)) lot t.lots (each_kept t.lots stands.lots.rise kept.lots) r.lots);
      pieces = each is_piece piece_readable piece_columns piece t.pieces r.pieces;
      peers = each is_peer peer_readable (λ k. peer_columns k.1) peer t.peers r.peers;
      receipts = each is_receipt receipt_readable (λ k. receipt_columns k.1) receipt t.receipts r.receipts;
      cancellations = each is_cancellation cancellation_readable cancellation_columns cancellation t.cancellations r.cancellations;
      withdrawals = each is_withdrawal withdrawal_readable withdrawal_columns withdrawal t.withdrawals r.withdrawals;
      notices_out = each (is_notice_out t.meta.code) notice_out_readable notice_out_columns (notice_out t.meta.code) t.notices_out r.notices_out;
      notices_in = each is_notice_in notice_in_readable (λ k. notice_in_columns k.1) notice_in_row t.notices_in r.notices_in;
      corrections = each is_correction correction_readable correction_columns correction t.corrections r.corrections;
      device_carriers = each is_device_carrier device_carrier_readable (λ k. device_carrier_columns k.1) device_carrier t.device_carriers r.device_carriers;
      lot_carriers = each is_lot_carrier lot_carrier_readable lot_carrier_columns lot_carrier t.lot_carriers r.lot_carriers;
    }

-- those of version 2 too, whose version is read
pub kept_can_be_read : (db : Database) (t : Tables) → Stands db t → AreKept t → IsReadable t
kept_can_be_read db t stands kept = (kept_can_be_read_in 2 (omega arith) db t stands kept, kept.readable.version)
