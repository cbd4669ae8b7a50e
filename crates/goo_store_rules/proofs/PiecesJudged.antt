-- The rules of pieces, judged over rows, are what the state asks of each certificate.
use Rattle.std.proofs.Common.{◌≡◌, ℕ, pos, ◌&&◌, List, [], ◌∷◌, Bool, true, false, cond, map, Some, None, sym, ap, subst, ◌∙◌}
use Rattle.std.specs.Prelude.{◌↔◌}
use Rattle.std.specs.List.{list_all, AllByRecursion}
use Rattle.std.specs.Ordering.{int_eq, nat_cmp, eq_by_cmp}
use Rattle.std.specs.FinMap.{get}
use Rattle.std.proofs.lemmas.Bool.{and_parts, and_from}
use Rattle.goo_types.specs.Number.{code_of}
use Rattle.goo_spec.specs.Lots.{key_of}
use Rattle.goo_tables_rows.specs.Rows.{Tables, Lot, lot_key, account_in, bare_lot}
use Rattle.goo_tables_rows.specs.Stands.{Stands}
use Rattle.goo_store_open.specs.Found.{AreOf}
use Rattle.goo_store_open.specs.declared.finding.Found.{Found}
use Rattle.goo_spec_tables.specs.Kept.{AreReadableIn, AreKeptIn, IsKeptLot}
use Rattle.goo_spec_tables.specs.Places.{lot_of}
use Rattle.goo_spec_tables.specs.States.{state_of}
use Rattle.goo_store_rules.specs.WellKept.{is_issued, are_apart, has_account, has_cancellation, has_withdrawal, has_sent, has_lot_of, has_over, has_closed, act_in, is_timely, pair_cmp, is_over_at}
use Rattle.goo_store_rules.specs.Keeping.{has_its_numbers, has_its_names, has_its_places}
use Rattle.goo_store_rules.proofs.EachRow.{list_any-map}
use Rattle.goo_store_rules.proofs.RowsByKey.{row_under}
use Rattle.goo_store_rules.proofs.KeptCertificates.{HasItsCertificates}
use Rattle.goo_store_rules.proofs.KeptPieces.{rising_from, rising_back, lots_from}
use Rattle.goo_store_rules.proofs.KeptPlaces.{known_from, lots_back, issued_back, places_from, accounts_back, acts_back}
use Rattle.goo_store_rules.proofs.KeptTimes.{times_from, timely_from}
use Rattle.goo_store_rules.proofs.PieceRules.{is_given, has_its_account, has_its_act, has_its_lot, is_in_time, ArePiecesJudged, ArePiecesKept}

-- What both directions take: values that can be read, and lots by their rules.
-- `certificates` is goo_core_list's `certificates-rows` at these rows.
pub record HaveGoodLots (t : Tables) : Type 0 where
  pub readable : AreReadableIn t.meta.version t
  pub kept : (id : ℕ) (l : Lot) → row_under lot_key t.lots id ≡ Some l → IsKeptLot l
  pub certificates : HasItsCertificates t

-- each lot is the one that is known under its key
abbrev pub AreKnownLots : Tables → Type 0
AreKnownLots t = (id : ℕ) (l : Lot) → row_under lot_key t.lots id ≡ Some l → get (state_of t).lots (key_of (lot_of l)) ≡ Some (lot_of l)

-- what holds of all lots holds of each that a number finds
pub each_found : (P : Lot → Type 0) (lots : List Lot) → AllByRecursion P lots → (id : ℕ) (l : Lot) → row_under lot_key lots id ≡ Some l → P l
each_found P [] all id l found = absurd cc
each_found P (k ∷ ks) all id l found = go (int_eq (lot_key k) (pos id)) found (each_found P ks all.1 id l)
  where
    go : (b : Bool) → cond b (Some k) (row_under lot_key ks id) ≡ Some l → (row_under lot_key ks id ≡ Some l → P l) → P l
    go true here more = let same : k ≡ l = cc in subst P same all.0
    go false behind more = more behind

module _ (t : Tables) (db : _) (stands : Stands db t) (it : HaveGoodLots t) where
  -- rows that keep the rules of pieces
  pub pieces_kept : AreKnownLots t → ArePiecesJudged t → ArePiecesKept t
  pieces_kept known rules =
      let good = it.readable.pieces in
      let up = rising_from t good rules.apart in record {
        lots_there = lots_from (db.trees 8) t.lots stands.lots t.pieces rules.lots;
        rising = up;
        known = known_from t it.certificates good up (db.trees 8) stands.lots known rules.lots rules.issued;
        places = places_from t it.certificates good up rules.accounts rules.acts;
        times = times_from t it.readable.lots it.readable.meta (db.trees 8) stands.lots (db.trees 3) stands.accounts it.kept it.certificates good up rules.accounts rules.timely;
      }

  -- and back
  pub pieces_judged : ArePiecesKept t → ArePiecesJudged t
  pieces_judged kept =
      let good = it.readable.pieces in
      let up = kept.rising in
      let some = kept.lots_there in record {
        apart = rising_back t some up;
        issued = issued_back t it.certificates good up some kept.known;
        accounts = accounts_back t it.certificates good up some kept.places;
        acts = acts_back t it.certificates good up some kept.places;
        lots = lots_back t it.certificates good up (db.trees 8) stands.lots some kept.known;
        timely = timely_from t it.readable.lots it.readable.meta (db.trees 8) stands.lots (db.trees 3) stands.accounts it.kept it.certificates good up some kept.times;
      }

pub kept_pieces : (t : Tables) → AreKeptIn t.meta.version t → ArePiecesKept t
kept_pieces t kept = record { lots_there = kept.lots_there; rising = kept.rising; known = kept.sound.known; places = kept.sound.places; times = kept.sound.times }

-- ---- the rules, over what was read

abbrev pub are_apart_in : Found → Bool
are_apart_in x = are_apart None x.rows.production.pieces.items

abbrev pub are_issued_in : Found → Bool
are_issued_in x = list_all (is_issued x.meta.code x.meta.next_serial) x.rows.production.pieces.items

abbrev pub have_accounts_in : Found → Bool
have_accounts_in x = list_all (λ row. has_account (map account_in x.rows.members.accounts.items) row.account) x.rows.production.pieces.items

-- the rules of pieces among all rules
pub record HaveRulesOfPieces (x : Found) : Type 0 where
  pub apart : are_apart_in x ≡ true
  pub issued : are_issued_in x ≡ true
  pub accounts : have_accounts_in x ≡ true
  pub places : has_its_places x ≡ true

fourth : (a b c d e f : Bool) → a && (b && (c && (d && (e && f)))) ≡ true → (d ≡ true) × (e ≡ true)
fourth a b c d e f all =
    let later = and_parts d (e && f) (and_parts c (d && (e && f)) (and_parts b (c && (d && (e && f))) (and_parts a (b && (c && (d && (e && f)))) all).1).1).1 in
    (later.0, (and_parts e f later.1).0)

inner : (a b c d e : Bool) → a && (b && ((c && d) && e)) ≡ true → d ≡ true
inner a b c d e all = (and_parts c d (and_parts (c && d) e (and_parts b ((c && d) && e) (and_parts a (b && ((c && d) && e)) all).1).1).0).1

pub rules_of_pieces : (x : Found) → has_its_numbers x ≡ true → has_its_names x ≡ true → has_its_places x ≡ true → HaveRulesOfPieces x
rules_of_pieces x numbers names places =
    let two : (are_apart_in x ≡ true) × (are_issued_in x ≡ true) = search (fourth, numbers) in
    let accounts : have_accounts_in x ≡ true = search (inner, names) in
    record { apart = two.0; issued = two.1; accounts = accounts; places = places }

-- Where rows were read, the rules over what was read are those over the tables.
module _ (t : Tables) (x : Found) (of : AreOf t x) where
  -- neither looks at a lot's carrier
  lot_there : (origin id : ℕ) → has_lot_of origin (map bare_lot t.lots) id ≡ has_lot_of origin t.lots id
  lot_there origin id = list_any-map (λ l. eq_by_cmp pair_cmp (id, origin) (l.id, l.origin)) bare_lot t.lots

  lot_over : (id : ℕ) → has_over t.meta.today (map bare_lot t.lots) id ≡ has_over t.meta.today t.lots id
  lot_over id = list_any-map (λ l. is_over_at t.meta.today l.expires_on && eq_by_cmp nat_cmp id l.id) bare_lot t.lots

  places_same : has_its_places x
      ≡ list_all (has_its_act t) t.pieces
      && (list_all (has_its_lot t) t.pieces && list_all (is_in_time t) t.pieces)
  places_same = (λ i.
      list_all (act_in (has_cancellation (of.cancellations i)) (has_withdrawal (of.withdrawals i)) (has_sent (of.notices_out i))) (of.pieces i)
      && (list_all (λ p. has_lot_of (code_of p.first) (of.lots i) p.lot) (of.pieces i) && list_all (is_timely (has_over (of.meta i).today (of.lots i)) (has_closed (of.accounts i))) (of.pieces i)))
      ∙ (λ i. list_all (has_its_act t) t.pieces && (list_all (λ p. lot_there (code_of p.first) p.lot i) t.pieces && list_all (is_timely (λ id. lot_over id i) (has_closed t.accounts)) t.pieces))

  issued_same : are_issued_in x ≡ list_all (is_given t) t.pieces
  issued_same = λ i. list_all (is_issued (of.meta i).code (of.meta i).next_serial) (of.pieces i)

  accounts_same : have_accounts_in x ≡ list_all (has_its_account t) t.pieces
  accounts_same = λ i. list_all (λ p. has_account (of.accounts i) p.account) (of.pieces i)

  pub judged_in_tables : HaveRulesOfPieces x → ArePiecesJudged t
  judged_in_tables rules =
      let parts = and_parts _ _ (sym places_same ∙ rules.places) in
      let more = and_parts _ _ parts.1 in record {
        apart = sym (ap (are_apart None) of.pieces) ∙ rules.apart;
        issued = sym issued_same ∙ rules.issued;
        accounts = sym accounts_same ∙ rules.accounts;
        acts = parts.0;
        lots = more.0;
        timely = more.1;
      }

  pub judged_as_read : ArePiecesJudged t → HaveRulesOfPieces x
  judged_as_read rules = record {
    apart = ap (are_apart None) of.pieces ∙ rules.apart;
    issued = issued_same ∙ rules.issued;
    accounts = accounts_same ∙ rules.accounts;
    places = places_same ∙ and_from _ _ rules.acts (and_from _ _ rules.lots rules.timely);
  }

  module _ (db : _) (stands : Stands db t) where
    -- the rules over what was read are what the state asks
    pub rules_kept : HaveGoodLots t → AreKnownLots t → HaveRulesOfPieces x ↔ ArePiecesKept t
    rules_kept it known = (λ rules. pieces_kept t db stands it known (judged_in_tables rules), λ kept. judged_as_read (pieces_judged t db stands it kept))

    -- what was read keeps all rules, and the tables keep those of pieces
    pub kept_by_rules : HaveGoodLots t → AreKnownLots t → has_its_numbers x ≡ true → has_its_names x ≡ true → has_its_places x ≡ true → ArePiecesKept t
    kept_by_rules it known numbers names places = (rules_kept it known).0 (rules_of_pieces x numbers names places)

    -- the tables keep all rules, and what was read keeps those of pieces
    pub rules_by_kept : HasItsCertificates t → AreKeptIn t.meta.version t → HaveRulesOfPieces x
    rules_by_kept certificates kept =
        judged_as_read (pieces_judged t db stands (record { readable = kept.readable; kept = λ id l found. kept.lots (pos id) l found; certificates = certificates }) (kept_pieces t kept))
