-- The rows that are held or expired are in time where their certificates are.
use Rattle.std.proofs.Common.{◌≡◌, ℕ, pos, [], ◌∷◌, ◌==◌, ◌&&◌, not, List, Bool, true, false, cond, map, is_some, Option, Some, None, option_map, refl, sym, ap, ◌∙◌, arith, true≢false}
use Rattle.std.specs.List.{list_all}
use Rattle.std.specs.Option.{option_map_or}
use Rattle.std.specs.Ordering.{nat_cmp, int_eq}
use Rattle.std.specs.Cmp.{nat_cmp_total}
use Rattle.std.specs.FinMap.{get, from_entries}
use Rattle.std.proofs.lemmas.Bool.{and_parts, and_from, eqb-true}
use Rattle.sqlite_typed.specs.Tests.{bytes_lt, both_and}
use Rattle.goo_types.specs.Day.{IsDay, day_reading}
use Rattle.goo_types.specs.Piece.{IsRising}
use Rattle.goo_types.specs.Place.{account_of}
use Rattle.goo_types.specs.Texts.{day_text}
use Rattle.goo_types.specs.declared.lot_fields.LotFields.{LotFields}
use Rattle.goo_types.specs.declared.place.Place.{Place}
use Rattle.goo_types.specs.declared.place.Place.TheVariants.{Held, Cancelled, Expired, Withdrawn, Exported}
use Rattle.goo_spec.specs.Days.{is_over}
use Rattle.goo_spec.specs.Lots.{is_held, is_expired}
use Rattle.goo_spec.specs.Sound.{is_open}
use Rattle.goo_tables_rows.specs.Rows.{Tables, Account, Lot, Meta, lot_key, lot_row, account_key, account_row}
use Rattle.goo_tables_rows.specs.Stands.{Keeps}
use Rattle.goo_tables_rows.specs.declared.piece.PieceRow.{PieceRow}
use Rattle.goo_spec_tables.specs.Kept.{IsKeptLot}
use Rattle.goo_spec_tables.specs.Places.{place_of, lot_of, rows_of}
use Rattle.goo_spec_tables.specs.Readable.{reads, is_code, is_lot, is_meta, is_piece}
use Rattle.goo_spec_tables.specs.States.{state_of, account_of as account_in, known_account}
use Rattle.goo_spec_tables.specs.Texts.{day_of}
use Rattle.goo_spec_tables.proofs.Expiring.{place_held, stated_day, last_day_read, over_text, found_passes}
use Rattle.goo_spec_tables.proofs.Known.{only_day}
use Rattle.goo_spec_tables.proofs.RowsFound.{place_account}
use Rattle.goo_store_rules.specs.WellKept.{is_over_at, has_account, has_over, has_closed}
use Rattle.goo_store_rules.proofs.RowsByKey.{row_under, any_keyed, account_at, still_some, there}
use Rattle.goo_store_rules.proofs.KeptCertificates.{HasItsCertificates, have_lots, judged, judged_back}
use Rattle.goo_store_rules.proofs.KeptPieces.{row_ends}
use Rattle.goo_store_rules.proofs.PieceRules.{has_its_account, is_in_time, IsTimely}

-- ---- places by the kinds of rows

three_first : (kind : ℕ) → (kind == 1) ≡ true → (kind == 3) ≡ false
three_first kind one = ap (λ k. k == 3) (eqb-true kind 1 one)

three_second : (kind : ℕ) → (kind == 2) ≡ true → (kind == 3) ≡ false
three_second kind two = ap (λ k. k == 3) (eqb-true kind 2 two)

expired_kind : (kind account act : ℕ) → is_expired (place_of kind account act) ≡ (kind == 3)
expired_kind kind account act = go (kind == 1) (kind == 2) (kind == 3) (kind == 4) (three_first kind) (three_second kind)
  where
    go : (a b c d : Bool) → (a ≡ true → c ≡ false) → (b ≡ true → c ≡ false)
        → is_expired (cond a (Held account) (cond b (Cancelled account act) (cond c (Expired account) (cond d (Withdrawn account act) (Exported account act))))) ≡ c
    go true b c d one two = sym (one refl)
    go false true c d one two = sym (two refl)
    go false false true d one two = refl
    go false false false true one two = refl
    go false false false false one two = refl

-- ---- days

today_stated : (m : Meta) → is_meta m ≡ true → IsDay (day_of m.today)
today_stated m good =
    let rest = and_parts (is_code m.code) _ good in
    stated_day m.today (day_reading m.today) refl (and_parts (reads (day_reading m.today)) _ rest.1).0

-- the test of days by their texts is that of the statement
same_test : (today : List ℕ) (o : Option (List ℕ)) → is_over_at today o ≡ both_and bytes_lt o (Some today)
same_test today None = refl
same_test today (Some e) = refl

over_same : (l : Lot) (today : List ℕ) → IsKeptLot l → is_lot l ≡ true → IsDay (day_of today) → is_over_at today l.expires_on ≡ is_over (lot_of l) (day_of today)
over_same l today kept good valid =
    (λ i. is_over_at (only_day today (day_of today) valid refl i) l.expires_on)
    ∙ same_test (day_text (day_of today)) l.expires_on
    ∙ over_text l (day_of today) valid kept (last_day_read l good)

-- ---- accounts

open_same : (o : Option Account) → is_open (option_map account_in o) ≡ is_some o && not (option_map_or (λ (a : Account). a.closed == 1) o false)
open_same None = refl
open_same (Some a) = refl

-- ---- both rules in one

-- a held certificate is in an open account and of a lot that isn't over, an expired one of a lot that is
pub record IsInTime (held aged opens over : Bool) : Type 0 where
  pub opened : held ≡ true → opens ≡ true
  pub current : held ≡ true → over ≡ false
  pub expired : aged ≡ true → over ≡ true

timely_so : (held expired over shut : Bool) → cond held (not over && not shut) (cond expired over true) ≡ true → (held ≡ true → expired ≡ false) → IsInTime held expired (not shut) over
timely_so true expired false false timely apart = record { opened = λ _. refl; current = λ _. refl; expired = λ e. absurd (true≢false (sym e ∙ apart refl)) }
timely_so true expired false true timely apart = absurd (true≢false (sym timely))
timely_so true expired true shut timely apart = absurd (true≢false (sym timely))
timely_so false true over shut timely apart = record { opened = λ h. absurd (true≢false (sym h)); current = λ h. absurd (true≢false (sym h)); expired = λ _. timely }
timely_so false false over shut timely apart = record { opened = λ h. absurd (true≢false (sym h)); current = λ h. absurd (true≢false (sym h)); expired = λ h. absurd (true≢false (sym h)) }

timely_back : (held expired over shut : Bool) → IsInTime held expired (not shut) over → cond held (not over && not shut) (cond expired over true) ≡ true
timely_back true expired over shut it = (λ i. not (it.current refl i) && it.opened refl i)
timely_back false true over shut it = it.expired refl
timely_back false false over shut it = refl

in_time_same : (a b c d e f g h : Bool) → a ≡ b → c ≡ d → e ≡ f → g ≡ h → IsInTime a c e g → IsInTime b d f h
in_time_same a b c d e f g h held expired opened over it = record {
  opened = λ is. sym opened ∙ it.opened (held ∙ is);
  current = λ is. sym over ∙ it.current (held ∙ is);
  expired = λ is. sym over ∙ it.expired (expired ∙ is);
}

open_shut : (opened some shut : Bool) → opened ≡ some && not shut → some ≡ true → opened ≡ not shut
open_shut opened some shut is there = is ∙ ap (λ b. b && not shut) there

shut_open : (held expired opened some shut over : Bool) → opened ≡ some && not shut → IsInTime held expired opened over → IsInTime held expired (not shut) over
shut_open held expired opened some shut over is it = record {
  opened = λ h. (and_parts some (not shut) (sym is ∙ it.opened h)).1;
  current = it.current;
  expired = it.expired;
}

both_pass : (p q : PieceRow → Bool) (ps : List PieceRow) → list_all p ps ≡ true → list_all q ps ≡ true → list_all (λ r. p r && q r) ps ≡ true
both_pass p q [] all more = refl
both_pass p q (r ∷ rs) all more =
    let a = and_parts (p r) (list_all p rs) all in
    let b = and_parts (q r) (list_all q rs) more in
    and_from (p r && q r) (list_all (λ s. p s && q s) rs) (and_from (p r) (q r) a.0 b.0) (both_pass p q rs a.1 b.1)

-- ---- each row

module _ (t : Tables) (lots_good : list_all is_lot t.lots ≡ true) (meta_good : is_meta t.meta ≡ true) (lot_rows : List _) (lots_keep : Keeps lot_rows lot_row lot_key t.lots)
    (account_rows : List _) (accounts_keep : Keeps account_rows account_row account_key t.accounts)
    (lots_kept : (id : ℕ) (l : Lot) → row_under lot_key t.lots id ≡ Some l → IsKeptLot l) where
  abbrev InTime : ℕ → LotFields → Place → Type 0
  InTime n lot place = IsInTime (is_held place) (is_expired place) (is_open (get (from_entries {R = nat_cmp} (map known_account t.accounts)) (account_of place))) (is_over lot (day_of t.meta.today))

  over_row : (p : PieceRow) (l : Lot) → row_under lot_key t.lots p.lot ≡ Some l → has_over t.meta.today t.lots p.lot ≡ is_over (lot_of l) (day_of t.meta.today)
  over_row p l found =
      any_keyed (λ (k : Lot). k.id) (λ k. is_over_at t.meta.today k.expires_on) p.lot lot_rows lot_row t.lots lots_keep
      ∙ ap (λ o. option_map_or (λ (k : Lot). is_over_at t.meta.today k.expires_on) o false) found
      ∙ over_same l t.meta.today (lots_kept p.lot l found) (found_passes is_lot (λ k. int_eq (lot_key k) (pos p.lot)) t.lots l lots_good found) (today_stated t.meta meta_good)

  open_row : (p : PieceRow) → is_open (get (from_entries {R = nat_cmp} (map known_account t.accounts)) (account_of (place_of p.kind p.account p.act)))
      ≡ has_account t.accounts p.account && not (has_closed t.accounts p.account)
  open_row p =
      let row = row_under account_key t.accounts p.account in
      let some = sym (still_some account_in row) ∙ sym (ap is_some (account_at t.accounts p.account)) ∙ sym (there nat_cmp_total known_account p.account t.accounts) in
      let shut = any_keyed (λ (a : Account). a.number) (λ a. a.closed == 1) p.account account_rows account_row t.accounts accounts_keep in
      ap (λ n. is_open (get (from_entries {R = nat_cmp} (map known_account t.accounts)) n)) (place_account p.kind p.account p.act)
      ∙ ap is_open (account_at t.accounts p.account)
      ∙ open_same row
      ∙ (λ i. some i && not (sym shut i))

  row_in_time : (p : PieceRow) (l : Lot) → row_under lot_key t.lots p.lot ≡ Some l → has_its_account t p && is_in_time t p ≡ true → InTime 0 (lot_of l) (place_of p.kind p.account p.act)
  row_in_time p l found passes =
      let both = and_parts (has_account t.accounts p.account) (is_in_time t p) passes in
      in_time_same (p.kind == 1) _ (p.kind == 3) _ (not (has_closed t.accounts p.account)) _ (has_over t.meta.today t.lots p.lot) _
      (sym (place_held p.kind p.account p.act)) (sym (expired_kind p.kind p.account p.act)) (sym (open_shut _ (has_account t.accounts p.account) (has_closed t.accounts p.account) (open_row p) both.0)) (over_row p l found)
      (timely_so (p.kind == 1) (p.kind == 3) (has_over t.meta.today t.lots p.lot) (has_closed t.accounts p.account) both.1 (three_first p.kind))

  row_timely : (p : PieceRow) (l : Lot) → row_under lot_key t.lots p.lot ≡ Some l → InTime 0 (lot_of l) (place_of p.kind p.account p.act) → is_in_time t p ≡ true
  row_timely p l found it =
      timely_back (p.kind == 1) (p.kind == 3) (has_over t.meta.today t.lots p.lot) (has_closed t.accounts p.account)
      (in_time_same _ (p.kind == 1) _ (p.kind == 3) (not (has_closed t.accounts p.account)) _ _ (has_over t.meta.today t.lots p.lot)
      (place_held p.kind p.account p.act) (expired_kind p.kind p.account p.act) refl (sym (over_row p l found))
      (shut_open _ _ _ (has_account t.accounts p.account) (has_closed t.accounts p.account) _ (open_row p) it))

  module _ (has_its : HasItsCertificates t) (good : list_all is_piece t.pieces ≡ true) (up : IsRising (rows_of t)) where
    -- certificates are held and expire in time
    pub times_from : list_all (has_its_account t) t.pieces ≡ true → list_all (is_in_time t) t.pieces ≡ true
        → IsTimely t
    unfolding state_of
    times_from accounts all =
        let each =
        judged t has_its good up InTime (λ p. has_its_account t p && is_in_time t p) (λ p l reads found passes n from to. row_in_time p l found passes)
        (both_pass (has_its_account t) (is_in_time t) t.pieces accounts all) in
        record { opened = λ n lot place is. (each n lot place is).opened; current = λ n lot place is. (each n lot place is).current; expired = λ n lot place is. (each n lot place is).expired }

    pub timely_from : have_lots t.lots t.pieces ≡ true → IsTimely t
        → list_all (is_in_time t) t.pieces ≡ true
    unfolding state_of
    timely_from lots_there times =
        judged_back t has_its good up InTime (is_in_time t) (λ p l reads found of. row_timely p l found (of p.first (omega arith) (row_ends p reads).0)) lots_there
        (λ n lot place is. record { opened = times.opened n lot place is; current = times.current n lot place is; expired = times.expired n lot place is })
